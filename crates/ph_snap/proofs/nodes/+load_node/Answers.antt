use Rattle.std.proofs.Common.{◌≡◌, ◌+◌, ◌*◌, ◌≤◌, ◌++◌, [], ◌∷◌, length, reverse, drop, take, ap, sym, subst, refl, ◌∙◌, arith, get_or, Fits, w8, ℕ}
use Rattle.std.proofs.lemmas.List.{length-append, length-reverse}
use Rattle.ph_specs.specs.Load.{known, places_under}
use Rattle.ph_specs.specs.Node.{PlainNode}
use Rattle.ph_model.specs.NodeSize.{node_size}
use Rattle.ph_specs.specs.Record.{first_in, entries_in, unpacked}
use Rattle.ph_node.specs.Children.{nodes_of, in_child}
use Rattle.ph_node.proofs.ReversedChildren.{nodes-first, nodes-turned}
use Rattle.ph_snap.specs.Faults.{HaveNone}
use Rattle.ph_snap.specs.Reads.{ReadAs, points, all_points, all_sizes}
use Rattle.ph_snap.specs.RecordPlaces.{place_of}
use Rattle.ph_snap.proofs.Loads.{StandsAt, inside, stands-few, stands-many, all-none, child-fault, read-all, counts}
use Rattle.ph_snap.proofs.NodeReads.{read-start, read-more}
use Rattle.ph_snap.proofs.RecordFaults.{none-more}
use Rattle.ph_snap.proofs.Sizes.{points-more, sizes-more}
use Rattle.ph_snap.proofs.Stepping.{bytes-are}
use Rattle.ph_snap.proofs.nodes.+load_node.Given.{Over}
use Rattle.ph_snap.proofs.nodes.+load_node.Goals.{After-words}
use Rattle.ph_snap.proofs.nodes.+load_node.Goals as goal

-- the record that was read stands there
stands : (g : Over) (t : ℕ) (c : After-words g t) → ((i : ℕ) → Fits w8 (get_or c.args.bytes.now i 0)) →
    StandsAt c.args.format.now.kind c.args.format.now.width c.args.format.now.dims c.args.bytes.now
    (place_of c.args.format.now.dims c.args.place.now) c.args.at c.of-block.result.words
stands g t c fit = record {
  fits = bytes-are c.args.bytes.now fit;
  begins = c.requires.at;
  none = c.in-Ok.ensures.none;
  same = ap (λ k. k.words) c.of-block.ensures ∙ c.in-Ok.ensures.words;
}

pub entries-init : goal.entries-init
entries-init g t c =
    let format = c.args.format.now in
    let bytes = c.args.bytes.now in
    let k = stands g t (goal.at.entries-init g t c).After-words c.type_inv.bytes in
    let none : c.of-block.result.values ≡ [] = ap (λ k. k.values) c.of-block.ensures in
    record {
      within = omega (arith, c.len.ensures.value, inside k);
      words = refl;
      spare = omega (arith, ap (λ xs. length xs) none);
      count = ap (λ xs. length xs) none;
      none = λ qs. refl;
      nodes = rw none (read-start format.dims (drop (c.args.at + 8 * c.len.result) bytes));
      rows = rw none (omega arith);
      few = rw none (omega arith);
      changes = rw none (omega arith);
      cost = rw none (omega arith);
    }

pub put_first-requires-clause-spare : goal.put_first-requires-clause-spare
put_first-requires-clause-spare g t c =
    let format = c.args.format.now in
    let p = place_of c.args.format.now.dims c.args.place.now in
    let words = c.of-block.result.words in
    let k = stands g t (goal.at.put_first-requires-clause-spare g t c).After-words c.type_inv.bytes in
    let level = (first_in words).level in
    let above = known format.dims p in
    let es = entries_in format.dims words in
    let i = c.entries.i in
    let q = place_of format.dims c.in-Some.under in
    let place = rw (c.words-in-entries.ensures ∙ c.entries.invariant.words) at c.in-Some.ensures.place in
    let room : c.of-block.result.spare ≡ (first_in c.of-block.result.words).children =
    ap (λ k. k.spare) c.of-block.ensures ∙ c.in-Ok.ensures.room ∙ ap (λ k. (first_in k.words).children)
    (sym c.of-block.ensures) in
    omega (
      arith,
      c.entries.invariant.spare,
      c.entries.invariant.count,
      room,
      ap (λ ps. length ps) place,
      length-append (places_under level above (take i es)) (q ∷ []),
      stands-few k (i + 1),
    )

pub returns-in-Err-load_node-clause-err : goal.returns-in-Err-load_node-clause-err
returns-in-Err-load_node-clause-err g t c =
    let format = c.args.format.now in
    let k = stands g t (goal.at.returns-in-Err-load_node-clause-err g t c).After-words c.type_inv.bytes in
    child-fault k c.entries.i c.entries.end (place_of format.dims c.in-Some.under) c.in-Err-load_node.fault
    (rw (c.words-in-entries.ensures ∙ c.entries.invariant.words) at c.in-Some.ensures.place)
    (rw c.len.ensures.value at c.entries.invariant.none) c.in-Err-load_node.ensures.err

pub entries-preserved : goal.entries-preserved
entries-preserved g t c =
    let format = c.args.format.now in
    let bytes = c.args.bytes.now in
    let p = place_of c.args.format.now.dims c.args.place.now in
    let words = c.of-block.result.words in
    let level = (first_in words).level in
    let above = known format.dims p in
    let es = entries_in format.dims words in
    let i = c.entries.i in
    let q = place_of format.dims c.in-Some.under in
    let start = c.args.at + 8 * c.len.result in
    let end = c.in-Ok-load_node.child.end in
    let n : PlainNode = c.in-Ok-load_node.child.node in
    let ss = c.entries.block.values in
    let place : places_under (first_in c.of-block.result.words).level
    (known c.args.format.now.dims (place_of c.args.format.now.dims c.args.place.now))
    (take (c.entries.i + 1) (entries_in c.args.format.now.dims c.of-block.result.words)) ≡
    places_under (first_in c.of-block.result.words).level
    (known c.args.format.now.dims (place_of c.args.format.now.dims c.args.place.now))
    (take c.entries.i (entries_in c.args.format.now.dims c.of-block.result.words)) ++ place_of c.args.format.now.dims
    c.in-Some.under ∷ [] = rw (c.words-in-entries.ensures ∙ c.entries.invariant.words) at c.in-Some.ensures.place in
    let all : nodes_of (reverse c.put_first.new.self.values) ≡ nodes_of (reverse c.entries.block.values) ++
    c.in-Ok-load_node.child.node ∷ [] = ap (λ xs. nodes_of (reverse xs)) c.put_first.ensures.values ∙
    nodes-first (in_child n) ss in
    let rows : all_points (nodes_of (reverse c.put_first.new.self.values)) ≡
    all_points (nodes_of (reverse c.entries.block.values)) + points c.in-Ok-load_node.child.node =
    ap all_points all ∙ points-more (nodes_of (reverse ss)) n in
    let sizes : all_sizes (nodes_of (reverse c.put_first.new.self.values)) ≡
    all_sizes (nodes_of (reverse c.entries.block.values)) + node_size c.in-Ok-load_node.child.node =
    ap all_sizes all ∙ sizes-more (nodes_of (reverse ss)) n in
    record {
      within = c.in-Ok-load_node.ensures.loaded.within;
      words = c.put_first.ensures.same.0 ∙ c.entries.invariant.words;
      spare = omega (arith, c.entries.invariant.spare, c.put_first.ensures.spare, ap (λ xs. length xs) c.put_first.ensures.values);
      count = omega (
        arith,
        ap (λ xs. length xs) c.put_first.ensures.values,
        c.entries.invariant.count,
        ap (λ ps. length ps) place,
        length-append (places_under level above (take i es)) (q ∷ []),
      );
      none = subst (λ ps. HaveNone format.kind format.width format.dims ps start bytes end) (sym place)
          (none-more format.kind format.width format.dims bytes (places_under level above (take i es)) q start c.entries.end
          end c.entries.invariant.none c.in-Ok-load_node.ensures.loaded.none);
      nodes = subst (λ ns. ReadAs format.dims (drop start bytes) ns (drop end bytes)) (sym all)
          (read-more format.dims (drop start bytes) (drop c.entries.end bytes) (drop end bytes) (nodes_of (reverse ss))
          n c.entries.invariant.nodes c.in-Ok-load_node.ensures.loaded.node);
      rows = omega (arith, c.entries.invariant.rows, c.in-Ok-load_node.ensures.loaded.rows, rows);
      few = omega (arith, c.entries.invariant.few, c.in-Ok-load_node.ensures.loaded.few, rows);
      changes = omega (arith, c.entries.invariant.changes, c.in-Ok-load_node.ensures.loaded.nodes, sizes);
      cost = omega (arith, c.entries.invariant.cost, c.in-Ok-load_node.ensures.loaded.cost, sizes);
    }

pub assemble-node-requires-clause-children : goal.assemble-node-requires-clause-children
assemble-node-requires-clause-children g t c =
    let k = stands g t (goal.at.assemble-node-requires-clause-children g t c).After-words c.type_inv.bytes in
    let past : (first_in c.of-block.result.words).entries ≤ c.entries.i = omega (arith, c.entries-test.false, (rw c.words.ensures at c.count_in-count.ensures)) in
    ap (λ xs. length xs) c.reverse.ensures.values ∙ length-reverse c.entries.block.values
    ∙ c.entries.invariant.count ∙ stands-many k c.entries.i past
    ∙ ap (λ ws. (first_in ws).children) (sym (c.reverse.ensures.same.0 ∙ c.entries.invariant.words))

pub returns-clause-loaded : goal.returns-clause-loaded
returns-clause-loaded g t c =
    let format = c.args.format.now in
    let bytes = c.args.bytes.now in
    let k = stands g t (goal.at.returns-clause-loaded g t c).After-words c.type_inv.bytes in
    let past : (first_in c.of-block.result.words).entries ≤ c.entries.i = omega (arith, c.entries-test.false, (rw c.words.ensures at c.count_in-count.ensures)) in
    let many : length (nodes_of (reverse c.entries.block.values)) ≡ (first_in c.of-block.result.words).children =
    nodes-turned c.entries.block.values ∙ c.entries.invariant.count ∙ stands-many k c.entries.i past in
    let cs = nodes_of (reverse c.entries.block.values) in
    let node : c.assemble-node.result ≡ unpacked c.args.format.now.dims c.of-block.result.words (nodes_of (reverse c.entries.block.values)) = c.assemble-node.ensures.node
    ∙ (λ j. unpacked (sym c.requires.dims j) (c.reverse.ensures.same.0 j) (nodes_of (c.reverse.ensures.values j)))
    ∙ ap (λ ws. unpacked c.args.format.now.dims ws (nodes_of (reverse c.entries.block.values))) c.entries.invariant.words in
    let size = counts k cs many in
    let entries : c.count_in-count.result ≡ (first_in c.of-block.result.words).entries = rw c.words.ensures at c.count_in-count.ensures in
    let below : c.children_in-below.result ≡ (first_in c.of-block.result.words).children = rw c.words-2.ensures at c.children_in-below.ensures in
    record {
      none = all-none k c.entries.i c.entries.end past (rw c.len.ensures.value at c.entries.invariant.none);
      node = subst (λ x. ReadAs format.dims (drop c.args.at bytes) (x ∷ []) (drop c.entries.end bytes)) (sym node)
          (read-all k c.entries.end cs many (omega (arith, c.len.ensures.value, c.entries.invariant.few))
          (rw c.len.ensures.value at c.entries.invariant.nodes));
      within = c.entries.invariant.within;
      rows = omega (arith, c.entries.invariant.rows, ap points node, size.rows, entries, below);
      few = omega (arith, c.entries.invariant.few, ap points node, size.rows, size.long, c.len.ensures.value);
      nodes = omega (arith, c.entries.invariant.changes, c.assemble-node.ensures.cost, ap node_size node, size.nodes);
      cost = omega (arith, c.entries.invariant.cost, ap node_size node, size.nodes, size.long, c.len.ensures.value);
    }
