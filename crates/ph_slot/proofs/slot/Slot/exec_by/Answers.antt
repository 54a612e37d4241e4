use Rattle.ph_slot.proofs.slot.Slot.exec_by.Goals as goal

pub returns-in-D1-clause-done : goal.returns-in-D1-clause-done
returns-in-D1-clause-done g c = rw c.in-D1.is c.exec.ensures.done

pub returns-in-D2-clause-done : goal.returns-in-D2-clause-done
returns-in-D2-clause-done g c = rw c.in-D2.is c.exec-in-D2.ensures.done

pub returns-in-D3-clause-done : goal.returns-in-D3-clause-done
returns-in-D3-clause-done g c = rw c.in-D3.is c.exec-in-D3.ensures.done

pub returns-in-D4-clause-done : goal.returns-in-D4-clause-done
returns-in-D4-clause-done g c = rw c.in-D4.is c.exec-in-D4.ensures.done

pub returns-in-D5-clause-done : goal.returns-in-D5-clause-done
returns-in-D5-clause-done g c = rw c.in-D5.is c.exec-in-D5.ensures.done

pub returns-in-D6-clause-done : goal.returns-in-D6-clause-done
returns-in-D6-clause-done g c = rw c.in-D6.is c.exec-in-D6.ensures.done

pub returns-in-D7-clause-done : goal.returns-in-D7-clause-done
returns-in-D7-clause-done g c = rw c.in-D7.is c.exec-in-D7.ensures.done

pub returns-in-D8-clause-done : goal.returns-in-D8-clause-done
returns-in-D8-clause-done g c = rw c.in-D8.is c.exec-in-D8.ensures.done

pub returns-in-D9-clause-done : goal.returns-in-D9-clause-done
returns-in-D9-clause-done g c = rw c.in-D9.is c.exec-in-D9.ensures.done

pub returns-in-D10-clause-done : goal.returns-in-D10-clause-done
returns-in-D10-clause-done g c = rw c.in-D10.is c.exec-in-D10.ensures.done

pub returns-in-D11-clause-done : goal.returns-in-D11-clause-done
returns-in-D11-clause-done g c = rw c.in-D11.is c.exec-in-D11.ensures.done

pub returns-in-D12-clause-done : goal.returns-in-D12-clause-done
returns-in-D12-clause-done g c = rw c.in-D12.is c.exec-in-D12.ensures.done

pub returns-in-D13-clause-done : goal.returns-in-D13-clause-done
returns-in-D13-clause-done g c = rw c.in-D13.is c.exec-in-D13.ensures.done

pub returns-in-D14-clause-done : goal.returns-in-D14-clause-done
returns-in-D14-clause-done g c = rw c.in-D14.is c.exec-in-D14.ensures.done

pub returns-in-D15-clause-done : goal.returns-in-D15-clause-done
returns-in-D15-clause-done g c = rw c.in-D15.is c.exec-in-D15.ensures.done

pub returns-in-D16-clause-done : goal.returns-in-D16-clause-done
returns-in-D16-clause-done g c = rw c.in-D16.is c.exec-in-D16.ensures.done
