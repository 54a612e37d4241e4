use Rattle.std.proofs.Common.{◌≡◌, ℕ, ◌-◌, ◌<◌, ◌≤◌, arith, rules, ap, sym, ◌∙◌, List, map, length, refl, get_or}
use Rattle.std.specs.Prelude.{true}
use Rattle.std.specs.List.{AllByRecursion as Each}
use Rattle.std.proofs.lemmas.List.{length-map}
use Rattle.ph_specs.specs.Coordinate.{is_point}
use Rattle.ph_specs.specs.Node.{Entries, PlainNode}
use Rattle.ph_model.specs.EntryList.{Entry, value, node}
use Rattle.ph_specs.specs.Table.{Row}
use Rattle.ph_specs.specs.Shape.{row_address, digits_below, digits_between, node_below, node_at}
use Rattle.ph_shape.specs.Groups.{HaveAddress}
use Rattle.ph_shape.specs.declared.plain.HeldOf.TheVariants.{Value, Child}
use Rattle.ph_shape.proofs.Made.{entry-of-made, made-next, made-all, filled-more}
use Rattle.ph_shape.proofs.Fronts.{each-item}
use Rattle.ph_shape.proofs.Steps.{first-is, none-is, step, point-of-map, child-of-map, length-below, length-between}
use Rattle.ph_shape.proofs.shape.+shape.Goals as goal

-- the first row of a group has its address, and is at a point
first-row : {X : Type 0} (f : X → Row) (w d place a : ℕ) (xs : List X) (x : X) → HaveAddress w place a (map f xs) →
    Each (λ r. is_point w d r.point ≡ true) (map f xs) → 1 ≤ length xs → x ≡ get_or xs 0 x →
    (row_address w place (f x) ≡ a) × (is_point w d (f x).point ≡ true)
first-row f w d place a xs x h p some is =
    let l : 0 < length (map f xs) = omega (arith, some, length-map xs f) in
    (each-item (λ r. row_address w place r ≡ a) f xs 0 x h l is, each-item (λ r. is_point w d r.point ≡ true) f xs 0 x p l is)

pub group_entry_of-top_difference-requires-clause-last : goal.group_entry_of-top_difference-requires-clause-last
group_entry_of-top_difference-requires-clause-last g t c =
    each-item (λ r. is_point c.args.w g.P.Dims.D r.point ≡ true) g.P.Space.row_of c.args.group.now
    (length c.args.group.now - 1) c.index-group-group.result c.requires.group.points
    (omega (arith, c.requires.some, length-map c.args.group.now g.P.Space.row_of)) c.index-group-group.is

pub group_entry_of-child_body-body-requires-clause-low : goal.group_entry_of-child_body-body-requires-clause-low
group_entry_of-child_body-body-requires-clause-low g t c =
    let k = child-of-map g.P.Space.row_of c.args.w g.P.Dims.D c.args.place c.in-Some.level c.args.group.now
    c.index-group-0.result c.index-group-group.result c.requires.place c.requires.group c.requires.some
    c.index-group-0.is c.index-group-group.is c.in-Some.ensures in
    k.lower

pub group_entry_of-node_of-requires : goal.group_entry_of-node_of-requires
group_entry_of-node_of-requires g t c κs within =
    let k = child-of-map g.P.Space.row_of c.args.w g.P.Dims.D c.args.place c.in-Some.level c.args.group.now
    c.index-group-0.result c.index-group-group.result c.requires.place c.requires.group c.requires.some
    c.index-group-0.is c.index-group-group.is c.in-Some.ensures in
    (omega (arith, k.lower, c.decreases), search (rules, within, k.group, k.lower))

pub group_entry_of-returns-in-None : goal.group_entry_of-returns-in-None
group_entry_of-returns-in-None g t c =
    let s = first-row g.P.Space.row_of c.args.w g.P.Dims.D c.args.place c.args.addr c.args.group.now c.index-group-0.result
    c.requires.addr c.requires.group.points c.requires.some c.index-group-0.is in
    entry-of-made {P = g.row.P.Denot} g.P.Dims.D
    (record { addr = c.args.addr; body = c.point_body-body.result; held = Value c.value.result }) c.args.addr
    c.point_body-body.result (digits_below c.args.w c.args.place (g.P.Space.row_of c.index-group-0.result).point)
    (Value c.value.result) _ refl c.point_body-body.ensures
    (length-below c.args.w g.P.Dims.D c.args.place (g.P.Space.row_of c.index-group-0.result).point s.1)
    (point-of-map g.P.Space.row_of c.args.w g.P.Dims.D c.args.place (node_below c.args.w c.args.place)
    c.args.group.now c.index-group-0.result c.index-group-group.result c.requires.group c.requires.some
    c.index-group-0.is c.index-group-group.is c.in-None.ensures
    ∙ ap {B = Entry} (λ t. record {
      addr = t;
      body = digits_below c.args.w c.args.place (g.P.Space.row_of c.index-group-0.result).point;
      what = value (g.P.Space.row_of c.index-group-0.result).value;
    }) s.0
    ∙ ap {B = Entry} (λ t. record {
      addr = c.args.addr;
      body = digits_below c.args.w c.args.place (g.P.Space.row_of c.index-group-0.result).point;
      what = value t;
    })
    (sym c.value.ensures))

pub group_entry_of-returns-in_ok-child-in-Some : goal.group_entry_of-returns-in_ok-child-in-Some
group_entry_of-returns-in_ok-child-in-Some g t c =
    let k = child-of-map g.P.Space.row_of c.args.w g.P.Dims.D c.args.place c.in-Some.level c.args.group.now
    c.index-group-0.result c.index-group-group.result c.requires.place c.requires.group c.requires.some
    c.index-group-0.is c.index-group-group.is c.in-Some.ensures in
    let s = first-row g.P.Space.row_of c.args.w g.P.Dims.D c.args.place c.args.addr c.args.group.now c.index-group-0.result
    c.requires.addr c.requires.group.points c.requires.some c.index-group-0.is in
    entry-of-made {P = g.row.P.Denot} g.P.Dims.D
    (record { addr = c.args.addr; body = c.child_body-body.result; held = Child c.in_ok-child-in-Some.child })
    c.args.addr c.child_body-body.result
    (digits_between c.args.w c.args.place c.in-Some.level (g.P.Space.row_of c.index-group-0.result).point)
    (Child c.in_ok-child-in-Some.child) _ refl c.child_body-body.ensures
    (length-between c.args.w g.P.Dims.D c.args.place c.in-Some.level (g.P.Space.row_of c.index-group-0.result).point s.1)
    (k.entry
    ∙ ap {B = Entry} (λ t. record {
      addr = t;
      body = digits_between c.args.w c.args.place c.in-Some.level
          (g.P.Space.row_of c.index-group-0.result).point;
      what = node (node_at c.args.w c.in-Some.level (node_below c.args.w c.in-Some.level)
          (map g.P.Space.row_of c.args.group.now));
    }) s.0
    ∙ ap {B = Entry} (λ t. record {
      addr = c.args.addr;
      body = digits_between c.args.w c.args.place c.in-Some.level
          (g.P.Space.row_of c.index-group-0.result).point;
      what = node t;
    }) (sym c.in_ok-child-in-Some.ensures))

pub node_of-address-addr-requires-clause-point : goal.node_of-address-addr-requires-clause-point
node_of-address-addr-requires-clause-point g t c =
    let f = first-is c.loop-first.rest.now c.in-Some.first.now c.in-Some.ensures.value in
    each-item (λ r. is_point c.args.w g.P.Dims.D r.point ≡ true) g.P.Space.row_of c.loop-first.rest.now 0
    c.in-Some.first.now c.loop-first.invariant.rows.points
    (omega (arith, f.0, length-map c.loop-first.rest.now g.P.Space.row_of)) f.1

pub node_of-group_entry_of-requires : goal.node_of-group_entry_of-requires
node_of-group_entry_of-requires g t c κs within =
    let s = step g.P.Space.row_of c.args.w g.P.Dims.D c.args.place c.address-addr.result c.group_len.result
    (node_below c.args.w c.args.place) c.loop-first.rest.now c.split_at.result.0.now c.split_at.result.1.now
    c.in-Some.first.now c.loop-first.invariant.rows c.in-Some.ensures.value (sym c.address-addr.ensures)
    c.group_len.ensures c.split_at.ensures.front c.split_at.ensures.back in
    (omega (arith, c.decreases), search (rules, within, s.some, s.group, s.addr))

pub node_of-loop-first-preserved : goal.node_of-loop-first-preserved
node_of-loop-first-preserved g t c =
    let s = step g.P.Space.row_of c.args.w g.P.Dims.D c.args.place c.address-addr.result c.group_len.result
    (node_below c.args.w c.args.place) c.loop-first.rest.now c.split_at.result.0.now c.split_at.result.1.now
    c.in-Some.first.now c.loop-first.invariant.rows c.in-Some.ensures.value (sym c.address-addr.ensures)
    c.group_len.ensures c.split_at.ensures.front c.split_at.ensures.back in
    record {
      made = made-next g.P.Dims.D c.loop-first.entries.items c.push.new.self.items c.in_ok-entry.entry _ _ _ _
          c.in_ok-push.ensures.items c.in_ok-entry.ensures.0 s.next c.loop-first.invariant.made;
      filled = filled-more g.P.Dims.D c.loop-first.entries.items c.push.new.self.items c.in_ok-entry.entry
          c.in_ok-push.ensures.items c.loop-first.invariant.filled c.in_ok-entry.ensures.1;
      rows = s.behind;
    }

pub node_of-returns : goal.node_of-returns
node_of-returns g t c =
    c.new.ensures
    ∙ ap {B = PlainNode} (λ (e : Entries). record { level = c.args.place; chain = e })
    (made-all g.P.Dims.D c.loop-first.entries.items g.P.Space.row_of c.args.w c.args.place
    (node_below c.args.w c.args.place) c.loop-first.rest.now _
    (none-is c.loop-first.rest.now c.in_default.ensures.value) c.loop-first.invariant.made)
