use Rattle.std.proofs.Common.{refl, arith}
use Rattle.ph_model.specs.EntryList.{entries}
use Rattle.ph_node.specs.Shown.{shown}
use Rattle.ph_path.proofs.Paths.{read-entry}
use Rattle.ph_walk.proofs.Notes.{none_of}
use Rattle.ph_window.proofs.Areas.{can-seek, none-left, next-on, out-on, out-none}
use Rattle.ph_window.proofs.Between.{at-seen}
use Rattle.ph_window.proofs.corners.CornersOf.first_open.Goals as goal

pub seek-requires : goal.seek-requires
seek-requires g c =
    let t = at-seen c.self.invariant c.self.view_is c.requires.width c.digits-digits.ensures.body
    c.digits-digits.ensures.value (shown c.args.node).level c.requires.level in
    can-seek t c.requires.masks (shown c.args.node) c.requires.lawful

pub returns-in_default : goal.returns-in_default
returns-in_default g c =
    let t = at-seen c.self.invariant c.self.view_is c.requires.width c.digits-digits.ensures.body
    c.digits-digits.ensures.value (shown c.args.node).level c.requires.level in
    record {
      found = none-left t c.requires.masks (shown c.args.node) c.requires.lawful c.args.place c.args.place (omega arith)
          (out-none t c.requires.masks (entries (shown c.args.node)) c.args.place)
          (none_of _ _ c.in_default.is c.seek.ensures.found);
      spot = tt;
      room = tt;
    }

pub returns-then-not-rules_out : goal.returns-then-not-rules_out
returns-then-not-rules_out g c =
    let t = at-seen c.self.invariant c.self.view_is c.requires.width c.digits-digits.ensures.body
    c.digits-digits.ensures.value (shown c.args.node).level c.requires.level in
    record {
      found = next-on t c.requires.masks (shown c.args.node) c.requires.lawful c.args.place c.args.place (omega arith)
          (out-none t c.requires.masks (entries (shown c.args.node)) c.args.place) c.in-Some.ensures.found;
      spot = c.in-Some.ensures.spot;
      room = c.in-Some.ensures.room;
    }

pub loop-spot-init : goal.loop-spot-init
loop-spot-init g c =
    let t = at-seen c.self.invariant c.self.view_is c.requires.width c.digits-digits.ensures.body
    c.digits-digits.ensures.value (shown c.args.node).level c.requires.level in
    let entry = read-entry (entries (shown c.args.node)) c.in-Some.spot refl c.in-Some.ensures.spot refl in
    record {
      behind = omega (arith, c.in-Some.ensures.found.behind);
      out = out-on t c.requires.masks (shown c.args.node) c.requires.lawful c.args.place c.args.place (omega arith)
          (out-none t c.requires.masks (entries (shown c.args.node)) c.args.place) c.in-Some.ensures.found _ entry
          (c.rules_out.ensures.point c.if-not-rules_out.false) (c.rules_out.ensures.outside c.if-not-rules_out.false);
    }

pub seek-requires-in-loop-spot : goal.seek-requires-in-loop-spot
seek-requires-in-loop-spot g c =
    let t = at-seen c.self.invariant c.self.view_is c.requires.width c.digits-digits.ensures.body
    c.digits-digits.ensures.value (shown c.args.node).level c.requires.level in
    can-seek t c.requires.masks (shown c.args.node) c.requires.lawful

pub returns-then-not-rules_out-2 : goal.returns-then-not-rules_out-2
returns-then-not-rules_out-2 g c =
    let t = at-seen c.self.invariant c.self.view_is c.requires.width c.digits-digits.ensures.body
    c.digits-digits.ensures.value (shown c.args.node).level c.requires.level in
    record {
      found = next-on t c.requires.masks (shown c.args.node) c.requires.lawful c.args.place c.loop-spot.place
          c.loop-spot.invariant.behind c.loop-spot.invariant.out c.in-Some-seek.ensures.found;
      spot = c.in-Some-seek.ensures.spot;
      room = c.in-Some-seek.ensures.room;
    }

pub loop-spot-preserved : goal.loop-spot-preserved
loop-spot-preserved g c =
    let t = at-seen c.self.invariant c.self.view_is c.requires.width c.digits-digits.ensures.body
    c.digits-digits.ensures.value (shown c.args.node).level c.requires.level in
    let entry = read-entry (entries (shown c.args.node)) c.in-Some-seek.spot refl c.in-Some-seek.ensures.spot refl in
    record {
      behind = omega (arith, c.loop-spot.invariant.behind, c.in-Some-seek.ensures.found.behind);
      out = out-on t c.requires.masks (shown c.args.node) c.requires.lawful c.args.place c.loop-spot.place
          c.loop-spot.invariant.behind c.loop-spot.invariant.out
          c.in-Some-seek.ensures.found _ entry (c.rules_out-in-Some-seek.ensures.point c.if-not-rules_out-2.false)
          (c.rules_out-in-Some-seek.ensures.outside c.if-not-rules_out-2.false);
    }

pub returns : goal.returns
returns g c =
    let t = at-seen c.self.invariant c.self.view_is c.requires.width c.digits-digits.ensures.body
    c.digits-digits.ensures.value (shown c.args.node).level c.requires.level in
    record {
      found = none-left t c.requires.masks (shown c.args.node) c.requires.lawful c.args.place c.loop-spot.place
          c.loop-spot.invariant.behind c.loop-spot.invariant.out
          (none_of _ _ c.in_default-seek.is c.seek-in-loop-spot.ensures.found);
      spot = tt;
      room = tt;
    }
