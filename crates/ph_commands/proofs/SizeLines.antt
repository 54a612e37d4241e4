-- Lines with the sizes of a tree, part by part.
use Rattle.std.proofs.Common.{◌≡◌, ℕ, List, [], ◌∷◌, ◌++◌, refl, ap, sym, ◌∙◌, append_assoc}
use Rattle.std.specs.Prelude.{codes, decimal}
use Rattle.std.specs.List.{join_with_byte}
use Rattle.ph_specs.specs.Reply.{stats_words, line_of}
use Rattle.ph_specs.specs.Stats.{Stats}

-- words joined with a space, and further words behind them
join-behind : (x : List ℕ) (xs : List (List ℕ)) (y : List ℕ) (ys : List (List ℕ)) →
    join_with_byte 32 ((x ∷ xs) ++ (y ∷ ys)) ≡ join_with_byte 32 (x ∷ xs) ++ (32 ∷ join_with_byte 32 (y ∷ ys))
join-behind x [] y ys = refl
join-behind x (z ∷ xs) y ys = ap (λ t. x ++ (32 ∷ t)) (join-behind z xs y ys) ∙ sym (append_assoc x (32 ∷ join_with_byte 32 (z ∷ xs)) (32 ∷ join_with_byte 32 (y ∷ ys)))

-- a word and a number, with a space behind each
counted : (line word number rest : List ℕ) → (line ++ word ++ 32 ∷ number ++ 32 ∷ []) ++ rest ≡ line ++ (word ++ (32 ∷ (number ++ (32 ∷ rest))))
counted line word number rest =
    append_assoc (line ++ word ++ 32 ∷ number) (32 ∷ []) rest ∙ append_assoc (line ++ word) (32 ∷ number)
    (32 ∷ rest) ∙ append_assoc line word (32 ∷ (number ++ (32 ∷ rest)))

pub sizes_joined : (line : List ℕ) (s : Stats) →
    (((((line ++ codes "rows" ++ 32 ∷ decimal s.rows ++ 32 ∷ []) ++ codes "nodes" ++ 32 ∷ decimal s.nodes ++ 32 ∷ [])
    ++ codes "linear" ++ 32 ∷ decimal s.linear ++ 32 ∷ []) ++ codes "cube" ++ 32 ∷ decimal s.cube ++ 32 ∷ []) ++
    codes "words ") ++ decimal s.words ≡ line ++ join_with_byte 32 (stats_words s)
sizes_joined line s = parts (decimal s.rows) (decimal s.nodes) (decimal s.linear) (decimal s.cube) (decimal s.words)
  where
    parts : (r n l c w : List ℕ) →
        (((((line ++ codes "rows" ++ 32 ∷ r ++ 32 ∷ []) ++ codes "nodes" ++ 32 ∷ n ++ 32 ∷ []) ++ codes "linear" ++
        32 ∷ l ++ 32 ∷ []) ++ codes "cube" ++ 32 ∷ c ++ 32 ∷ []) ++ codes "words ") ++ w ≡ line ++
        join_with_byte 32 (codes "rows" ∷ r ∷ codes "nodes" ∷ n ∷ codes "linear" ∷ l ∷ codes "cube" ∷ c ∷ codes "words" ∷ w ∷ [])
    parts r n l c w =
        let one = line ++ codes "rows" ++ 32 ∷ r ++ 32 ∷ [] in
        let two = one ++ codes "nodes" ++ 32 ∷ n ++ 32 ∷ [] in
        let three = two ++ codes "linear" ++ 32 ∷ l ++ 32 ∷ [] in
        let four = three ++ codes "cube" ++ 32 ∷ c ++ 32 ∷ [] in
        let end = codes "words" ++ (32 ∷ w) in
        let cubes = codes "cube" ++ (32 ∷ (c ++ (32 ∷ end))) in
        let linears = codes "linear" ++ (32 ∷ (l ++ (32 ∷ cubes))) in
        let nodes = codes "nodes" ++ (32 ∷ (n ++ (32 ∷ linears))) in
        append_assoc four (codes "words ") w ∙ counted three (codes "cube") c end ∙ counted two (codes "linear") l
        cubes ∙ counted one (codes "nodes") n linears ∙ counted line (codes "rows") r nodes

-- the same with a word and a number behind it
pub line_of_soak : (n bytes : ℕ) (s : Stats) →
    (((([] ++ codes "soak" ++ 32 ∷ decimal n ++ 32 ∷ []) ++ join_with_byte 32 (stats_words s)) ++ codes " bytes ") ++
    decimal bytes) ++ 10 ∷ [] ≡ line_of (codes "soak" ∷ decimal n ∷ stats_words s ++ codes "bytes" ∷ decimal bytes ∷ [])
line_of_soak n bytes s = parts (decimal n) (decimal s.rows)
    (codes "nodes" ∷ decimal s.nodes ∷ codes "linear" ∷ decimal s.linear ∷ codes "cube" ∷ decimal s.cube ∷
    codes "words" ∷ decimal s.words ∷ []) (decimal bytes)
  where
    parts : (k r : List ℕ) (ws : List (List ℕ)) (b : List ℕ) →
        (((([] ++ codes "soak" ++ 32 ∷ k ++ 32 ∷ []) ++ join_with_byte 32 (codes "rows" ∷ r ∷ ws)) ++ codes " bytes ")
        ++ b) ++ 10 ∷ [] ≡ line_of (codes "soak" ∷ k ∷ codes "rows" ∷ r ∷ ws ++ codes "bytes" ∷ b ∷ [])
    parts k r ws b =
        let head = [] ++ codes "soak" ++ 32 ∷ k ++ 32 ∷ [] in
        let sizes = join_with_byte 32 (codes "rows" ∷ r ∷ ws) in
        let all = join_with_byte 32 ((codes "rows" ∷ r ∷ ws) ++ (codes "bytes" ∷ b ∷ [])) in
        ap (λ t. t ++ 10 ∷ [])
        (append_assoc (head ++ sizes) (codes " bytes ") b ∙ append_assoc head sizes (codes " bytes " ++ b) ∙
        ap (λ t. head ++ t) (sym (join-behind (codes "rows") (r ∷ ws) (codes "bytes") (b ∷ []))) ∙
        counted [] (codes "soak") k all)
