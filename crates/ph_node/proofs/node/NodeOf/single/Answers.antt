use Rattle.std.proofs.Common.{◌≡◌, ◌^◌, ◌<◌, ◌≤◌, ℕ, List, [], ◌∷◌, take, arith, ap, refl, sym, ◌∙◌, length}
use Rattle.ph_specs.specs.Node.{PlainNode}
use Rattle.ph_model.specs.EntryList.{node_of, chained}
use Rattle.ph_model.specs.EntryEdits.{point_entry}
use Rattle.ph_model.specs.Lawful.{IsBody}
use Rattle.ph_specs.specs.Pack.{pack}
use Rattle.ph_specs.specs.Record.{unpacked}
use Rattle.ph_node.specs.Kept.{IsKept}
use Rattle.ph_node.specs.Children.{nodes_of}
use Rattle.ph_node.proofs.RecordNodes.{again}
use Rattle.ph_node.proofs.node.NodeOf.single.Goals as goal

node-is : (d b a v : ℕ) (body : List ℕ) → 1 ≤ d → d ≤ 16 → b ≤ 61 → a < 2 ^ d → IsBody d b body → IsKept d b (point_entry a body v ∷ [])
node-is d b a v body o f l m h = record { some = o; few = f; low = l; rise = (omega arith, m, h, tt) }

shown : (d b a v : ℕ) (body : List ℕ) → 1 ≤ d → d ≤ 16 → b ≤ 61 → a < 2 ^ d → IsBody d b body →
    unpacked d (pack d (node_of b (point_entry a body v ∷ []))) [] ≡ node_of b (point_entry a body v ∷ [])
shown d b a v body o f l m h = again d b (chained (point_entry a body v ∷ [])) (node-is d b a v body o f l m h) (omega arith) (λ z. refl)

pub assemble-requires-clause-record : goal.assemble-requires-clause-record
assemble-requires-clause-record g c = c.in_ok-block.ensures.laid (λ z. refl)

pub assemble-requires-clause-children : goal.assemble-requires-clause-children
assemble-requires-clause-children g c = ap (λ ss. length ss) c.in_ok-block.ensures.none ∙ sym c.in_ok-block.ensures.children

pub returns-clause-ok : goal.returns-clause-ok
returns-clause-ok g c =
    let r = c.requires in
    let n : PlainNode = node_of c.args.level (point_entry c.args.addr (take g.P.Dims.D c.args.body) c.args.v ∷ []) in
    c.assemble.ensures.node
    ∙ ap (λ ws. unpacked g.P.Dims.D ws (nodes_of c.in_ok-block.block.values)) c.in_ok-block.ensures.words
    ∙ ap (λ ss. unpacked g.P.Dims.D (pack g.P.Dims.D n) (nodes_of ss)) c.in_ok-block.ensures.none
    ∙ shown g.P.Dims.D c.args.level c.args.addr c.args.v (take g.P.Dims.D c.args.body) r.some r.few r.low r.address r.body.fields
