use Rattle.std.proofs.Common.{◌≡◌, ◌∙◌, refl, sym}
use Rattle.ph_script.specs.Meaning.{command_of}
use Rattle.ph_slot.specs.AnySlots.{any_slot}
use Rattle.ph_slot.proofs.Commanded.{tells-said}
use Rattle.ph_slot.proofs.Pairings.{differing-done}
use Rattle.ph_slot.proofs.Variants.{same-variant}
use Rattle.ph_slot.proofs.slot.Slot.exec_beside.Goals.{in-D1-D1, in-D2-D2, in-D3-D3, in-D4-D4}
use Rattle.ph_slot.proofs.slot.Slot.exec_beside.Goals.{in-D5-D5, in-D6-D6, in-D7-D7, in-D8-D8}
use Rattle.ph_slot.proofs.slot.Slot.exec_beside.Goals.{in-D9-D9, in-D10-D10, in-D11-D11, in-D12-D12}
use Rattle.ph_slot.proofs.slot.Slot.exec_beside.Goals.{in-D13-D13, in-D14-D14, in-D15-D15, in-D16-D16}
use Rattle.ph_slot.proofs.slot.Slot.exec_beside.Goals.{in_default, in_default-via-in-D1+in_default, in_default-via-in-D2+in_default, in_default-via-in-D3+in_default}
use Rattle.ph_slot.proofs.slot.Slot.exec_beside.Goals.{in_default-via-in-D4+in_default, in_default-via-in-D5+in_default, in_default-via-in-D6+in_default, in_default-via-in-D7+in_default}
use Rattle.ph_slot.proofs.slot.Slot.exec_beside.Goals.{in_default-via-in-D8+in_default, in_default-via-in-D9+in_default, in_default-via-in-D10+in_default, in_default-via-in-D11+in_default}
use Rattle.ph_slot.proofs.slot.Slot.exec_beside.Goals.{in_default-via-in-D12+in_default, in_default-via-in-D13+in_default, in_default-via-in-D14+in_default, in_default-via-in-D15+in_default}
use Rattle.ph_slot.proofs.slot.Slot.exec_beside.Goals.{in_default-via-in-D16+in_default}
use Rattle.ph_slot.proofs.slot.Slot.exec_beside.Goals as goal

pub returns-clause-done : goal.returns-clause-done
returns-clause-done g c =
    let desk = c.args.desk.now in
    let other = c.args.other.now in
    elim c.match-self.branch [
      | in-D1-D1 w ↦ rw (w.desk-is, w.self-is, w.result-is, w.in-D1-D1.is-0, w.in-D1-D1.is-1) w.exec_beside.ensures.done
      | in-D2-D2 w ↦ rw (w.desk-is, w.self-is, w.result-is, w.in-D2-D2.is-0, w.in-D2-D2.is-1) w.exec_beside-in-D2-D2.ensures.done
      | in-D3-D3 w ↦ rw (w.desk-is, w.self-is, w.result-is, w.in-D3-D3.is-0, w.in-D3-D3.is-1) w.exec_beside-in-D3-D3.ensures.done
      | in-D4-D4 w ↦ rw (w.desk-is, w.self-is, w.result-is, w.in-D4-D4.is-0, w.in-D4-D4.is-1) w.exec_beside-in-D4-D4.ensures.done
      | in-D5-D5 w ↦ rw (w.desk-is, w.self-is, w.result-is, w.in-D5-D5.is-0, w.in-D5-D5.is-1) w.exec_beside-in-D5-D5.ensures.done
      | in-D6-D6 w ↦ rw (w.desk-is, w.self-is, w.result-is, w.in-D6-D6.is-0, w.in-D6-D6.is-1) w.exec_beside-in-D6-D6.ensures.done
      | in-D7-D7 w ↦ rw (w.desk-is, w.self-is, w.result-is, w.in-D7-D7.is-0, w.in-D7-D7.is-1) w.exec_beside-in-D7-D7.ensures.done
      | in-D8-D8 w ↦ rw (w.desk-is, w.self-is, w.result-is, w.in-D8-D8.is-0, w.in-D8-D8.is-1) w.exec_beside-in-D8-D8.ensures.done
      | in-D9-D9 w ↦ rw (w.desk-is, w.self-is, w.result-is, w.in-D9-D9.is-0, w.in-D9-D9.is-1) w.exec_beside-in-D9-D9.ensures.done
      | in-D10-D10 w ↦ rw (w.desk-is, w.self-is, w.result-is, w.in-D10-D10.is-0, w.in-D10-D10.is-1) w.exec_beside-in-D10-D10.ensures.done
      | in-D11-D11 w ↦ rw (w.desk-is, w.self-is, w.result-is, w.in-D11-D11.is-0, w.in-D11-D11.is-1) w.exec_beside-in-D11-D11.ensures.done
      | in-D12-D12 w ↦ rw (w.desk-is, w.self-is, w.result-is, w.in-D12-D12.is-0, w.in-D12-D12.is-1) w.exec_beside-in-D12-D12.ensures.done
      | in-D13-D13 w ↦ rw (w.desk-is, w.self-is, w.result-is, w.in-D13-D13.is-0, w.in-D13-D13.is-1) w.exec_beside-in-D13-D13.ensures.done
      | in-D14-D14 w ↦ rw (w.desk-is, w.self-is, w.result-is, w.in-D14-D14.is-0, w.in-D14-D14.is-1) w.exec_beside-in-D14-D14.ensures.done
      | in-D15-D15 w ↦ rw (w.desk-is, w.self-is, w.result-is, w.in-D15-D15.is-0, w.in-D15-D15.is-1) w.exec_beside-in-D15-D15.ensures.done
      | in-D16-D16 w ↦ rw (w.desk-is, w.self-is, w.result-is, w.in-D16-D16.is-0, w.in-D16-D16.is-1) w.exec_beside-in-D16-D16.ensures.done
      | in_default w ↦
          let differ : (any_slot c.args.self.now).dims ≡ (any_slot other).dims → ⊥ = λ e.
          let same = sym c.dims-first.ensures.known ∙ c.dims-first.ensures.value ∙ e ∙ sym c.dims-second.ensures.value ∙ c.dims-second.ensures.known in
          elim w.in_default.branch [
            | in_default-via-in-D1+in_default v ↦ v.in_default.not-D1-1 (any_slot other) (same-variant _ other _ same v.in_default.is-0)
            | in_default-via-in-D2+in_default v ↦ v.in_default.not-D2-1 (any_slot other) (same-variant _ other _ same v.in_default.is-0)
            | in_default-via-in-D3+in_default v ↦ v.in_default.not-D3-1 (any_slot other) (same-variant _ other _ same v.in_default.is-0)
            | in_default-via-in-D4+in_default v ↦ v.in_default.not-D4-1 (any_slot other) (same-variant _ other _ same v.in_default.is-0)
            | in_default-via-in-D5+in_default v ↦ v.in_default.not-D5-1 (any_slot other) (same-variant _ other _ same v.in_default.is-0)
            | in_default-via-in-D6+in_default v ↦ v.in_default.not-D6-1 (any_slot other) (same-variant _ other _ same v.in_default.is-0)
            | in_default-via-in-D7+in_default v ↦ v.in_default.not-D7-1 (any_slot other) (same-variant _ other _ same v.in_default.is-0)
            | in_default-via-in-D8+in_default v ↦ v.in_default.not-D8-1 (any_slot other) (same-variant _ other _ same v.in_default.is-0)
            | in_default-via-in-D9+in_default v ↦ v.in_default.not-D9-1 (any_slot other) (same-variant _ other _ same v.in_default.is-0)
            | in_default-via-in-D10+in_default v ↦ v.in_default.not-D10-1 (any_slot other) (same-variant _ other _ same v.in_default.is-0)
            | in_default-via-in-D11+in_default v ↦ v.in_default.not-D11-1 (any_slot other) (same-variant _ other _ same v.in_default.is-0)
            | in_default-via-in-D12+in_default v ↦ v.in_default.not-D12-1 (any_slot other) (same-variant _ other _ same v.in_default.is-0)
            | in_default-via-in-D13+in_default v ↦ v.in_default.not-D13-1 (any_slot other) (same-variant _ other _ same v.in_default.is-0)
            | in_default-via-in-D14+in_default v ↦ v.in_default.not-D14-1 (any_slot other) (same-variant _ other _ same v.in_default.is-0)
            | in_default-via-in-D15+in_default v ↦ v.in_default.not-D15-1 (any_slot other) (same-variant _ other _ same v.in_default.is-0)
            | in_default-via-in-D16+in_default v ↦ v.in_default.not-D16-1 (any_slot other) (same-variant _ other _ same v.in_default.is-0)
          ] in
          let left : w.in_default.self ≡ c.args.self.now = elim w.in_default.branch [
            | in_default-via-in-D1+in_default v ↦ v.self-is ∙ sym v.in_default.is-0
            | in_default-via-in-D2+in_default v ↦ v.self-is ∙ sym v.in_default.is-0
            | in_default-via-in-D3+in_default v ↦ v.self-is ∙ sym v.in_default.is-0
            | in_default-via-in-D4+in_default v ↦ v.self-is ∙ sym v.in_default.is-0
            | in_default-via-in-D5+in_default v ↦ v.self-is ∙ sym v.in_default.is-0
            | in_default-via-in-D6+in_default v ↦ v.self-is ∙ sym v.in_default.is-0
            | in_default-via-in-D7+in_default v ↦ v.self-is ∙ sym v.in_default.is-0
            | in_default-via-in-D8+in_default v ↦ v.self-is ∙ sym v.in_default.is-0
            | in_default-via-in-D9+in_default v ↦ v.self-is ∙ sym v.in_default.is-0
            | in_default-via-in-D10+in_default v ↦ v.self-is ∙ sym v.in_default.is-0
            | in_default-via-in-D11+in_default v ↦ v.self-is ∙ sym v.in_default.is-0
            | in_default-via-in-D12+in_default v ↦ v.self-is ∙ sym v.in_default.is-0
            | in_default-via-in-D13+in_default v ↦ v.self-is ∙ sym v.in_default.is-0
            | in_default-via-in-D14+in_default v ↦ v.self-is ∙ sym v.in_default.is-0
            | in_default-via-in-D15+in_default v ↦ v.self-is ∙ sym v.in_default.is-0
            | in_default-via-in-D16+in_default v ↦ v.self-is ∙ sym v.in_default.is-0
          ] in
          rw (w.desk-is, w.self-is, w.result-is, left)
          (differing-done desk.limits.now.file_bytes (any_slot c.args.self.now) (any_slot other) w.differing_reply-reply.result _ _
          (g.F.Files.files desk.files.now) (g.F.Files.faults desk.files.now) desk.visits.now desk.changes.now w.say.result differ
          (tells-said _ _ w.differing_reply-reply.result w.say.result w.say.ensures.answer w.say.ensures.told w.say.ensures.err w.say.ensures.front)
          c.args.name (command_of c.args.cmd.now) c.requires.both w.differing_reply-reply.ensures)
    ]

pub returns-clause-same : goal.returns-clause-same
returns-clause-same g c = elim c.match-self.branch [
  | in-D1-D1 w ↦ rw w.desk-is w.exec_beside.ensures.same
  | in-D2-D2 w ↦ rw w.desk-is w.exec_beside-in-D2-D2.ensures.same
  | in-D3-D3 w ↦ rw w.desk-is w.exec_beside-in-D3-D3.ensures.same
  | in-D4-D4 w ↦ rw w.desk-is w.exec_beside-in-D4-D4.ensures.same
  | in-D5-D5 w ↦ rw w.desk-is w.exec_beside-in-D5-D5.ensures.same
  | in-D6-D6 w ↦ rw w.desk-is w.exec_beside-in-D6-D6.ensures.same
  | in-D7-D7 w ↦ rw w.desk-is w.exec_beside-in-D7-D7.ensures.same
  | in-D8-D8 w ↦ rw w.desk-is w.exec_beside-in-D8-D8.ensures.same
  | in-D9-D9 w ↦ rw w.desk-is w.exec_beside-in-D9-D9.ensures.same
  | in-D10-D10 w ↦ rw w.desk-is w.exec_beside-in-D10-D10.ensures.same
  | in-D11-D11 w ↦ rw w.desk-is w.exec_beside-in-D11-D11.ensures.same
  | in-D12-D12 w ↦ rw w.desk-is w.exec_beside-in-D12-D12.ensures.same
  | in-D13-D13 w ↦ rw w.desk-is w.exec_beside-in-D13-D13.ensures.same
  | in-D14-D14 w ↦ rw w.desk-is w.exec_beside-in-D14-D14.ensures.same
  | in-D15-D15 w ↦ rw w.desk-is w.exec_beside-in-D15-D15.ensures.same
  | in-D16-D16 w ↦ rw w.desk-is w.exec_beside-in-D16-D16.ensures.same
  | in_default w ↦ rw w.desk-is (record { out = refl; files = refl; visits = refl; changes = refl; limits = refl })
]
