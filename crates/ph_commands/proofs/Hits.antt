-- Listings of rows with their distances.
use Rattle.std.proofs.Common.{◌≡◌, ◌<◌, ◌≤◌, ◌+◌, ℕ, List, [], ◌∷◌, ◌++◌, length, map, drop, get_or, refl, ap, sym, ◌∙◌, subst, arith}
use Rattle.std.specs.Prelude.{ℤ, nat_le, Result, Ok, Err}
use Rattle.std.proofs.lemmas.List.{length-map, drop_more}
use Rattle.ph_io.specs.Giving.{Taken}
use Rattle.ph_specs.specs.Distance.{near, within, distance}
use Rattle.ph_specs.specs.Engine.{hit_listing}
use Rattle.ph_specs.specs.Reply.{Reply}
use Rattle.ph_specs.specs.Table.{Row}
use Rattle.ph_specs.specs.WorkSets.{ball}
use Rattle.ph_table.specs.Hits.{TableHit, hits_of}
use Rattle.ph_commands.specs.Listing.{hit_said, hit_replies, Lists, ListsNear, ListsBall, reached}
use Rattle.ph_commands.specs.Tables.{AnyTable}
use Rattle.ph_commands.specs.declared.answer.Answer.{Answer}
use Rattle.ph_commands.specs.declared.answer.Stop.{Stop}
use Rattle.ph_commands.specs.declared.answer.Stop.TheVariants.{WriteFault, NoMemory}
use Rattle.ph_commands.proofs.Listed.{few-filtered}

said-of : (q : List ℤ) (rows : List Row) → map hit_said (hits_of q rows) ≡ map (λ r. Reply.HitIs (distance r.point q) r) rows
said-of q [] = refl
said-of q (r ∷ rows) = ap (λ rs. Reply.HitIs (distance r.point q) r ∷ rs) (said-of q rows)

-- rows with their distances are said as the definition says them
pub replies-of : (q : List ℤ) (rows : List Row) → hit_replies (hits_of q rows) ≡ hit_listing q rows
replies-of q rows =
    ap (λ rs. rs ++ Reply.End (length (hits_of q rows)) ∷ []) (said-of q rows)
    ∙ ap (λ n. map (λ r. Reply.HitIs (distance r.point q) r) rows ++ Reply.End n ∷ []) (length-map rows (λ r. record { row = r; distance = distance r.point q }))

-- what is left of hits from a place on
pub hits-left : (hits : List TableHit) (i : ℕ) (h : TableHit) → i < length hits → h ≡ get_or hits i h → drop i hits ≡ h ∷ drop (i + 1) hits
hits-left hits i h short is = drop_more hits i h short ∙ ap (λ x. x ∷ drop (i + 1) hits) (sym is)

-- the nearest rows were listed
pub near-said : (t : AnyTable) (p q : List ℤ) (n : ℕ) (hits : List TableHit) (sink now_sink : Taken) (v now_v : ℕ)
    (result : Result Answer Stop) → p ≡ q → hits ≡ hits_of p (near p n t.tree.table) → v ≤ now_v →
    now_v ≤ v + reached t p n → Lists (hit_replies hits) 0 0 sink now_sink 0 0 result →
    ListsNear t q n sink now_sink v now_v result
near-said t p q n hits sink now_sink v now_v (Ok answer) is e later few listed =
    let all : hit_replies hits ≡ hit_listing q (near q n t.tree.table) = ap hit_replies e ∙
    replies-of p (near p n t.tree.table) ∙ ap (λ x. hit_listing x (near x n t.tree.table)) is in
    record { told = rw (← all) listed.told; good = listed.good; enough = omega (arith, later); few = rw (← is) few }
near-said t p q n hits sink now_sink v now_v (Err WriteFault) is e later few listed =
    let all : hit_replies hits ≡ hit_listing q (near q n t.tree.table) = ap hit_replies e ∙
    replies-of p (near p n t.tree.table) ∙ ap (λ x. hit_listing x (near x n t.tree.table)) is in
    record { front = rw (← all) listed.front; fault = refl; visited = rw (← is) few }
near-said t p q n hits sink now_sink v now_v (Err NoMemory) is e later few listed = absurd (let clash : NoMemory ≡ WriteFault = listed.fault in cc)

-- the rows within a radius were listed
pub ball-said : (t : AnyTable) (p q : List ℤ) (r : ℕ) (hits : List TableHit) (n : ℕ) (sink now_sink : Taken)
    (v now_v : ℕ) (result : Result Answer Stop) → p ≡ q → hits ≡ hits_of p (within p r t.tree.table) →
    n ≡ length (ball t.tree.width t.dims t.tree.table p r) →
    Lists (hit_replies hits) n n sink now_sink v now_v result → ListsBall t q r sink now_sink v now_v result
ball-said t p q r hits n sink now_sink v now_v result is e m listed =
    let w = t.tree.width in
    let d = t.dims in
    let rows = t.tree.table in
    let all : hit_replies hits ≡ hit_listing p (within p r rows) = ap hit_replies e ∙ replies-of p (within p r rows) in
    let bounded = subst (λ k. Lists (hit_replies hits) k k sink now_sink v now_v result) m listed in
    let said = subst (λ rs. Lists rs (length (ball w d rows p r)) (length (ball w d rows p r)) sink now_sink v now_v result) all bounded in
    subst (λ x. Lists (hit_listing x (within x r rows)) (length (ball w d rows x r)) (length (ball w d rows x r)) sink now_sink v now_v result) is said

-- a ball has no more rows than its table
pub few-hits : (q : List ℤ) (r : ℕ) (table : List Row) → length (hits_of q (within q r table)) ≤ length table
few-hits q r table =
    let few = few-filtered (λ s. nat_le (distance s.point q) r) table in
    let same = length-map {B = TableHit} (within q r table) (λ s. record { row = s; distance = distance s.point q }) in
    omega (arith, few, same)
