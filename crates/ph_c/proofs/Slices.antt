-- A part of an array that was written anew.
use borrow.Rule.Slice.PartMut.{put_mid}
use Rattle.std.proofs.Common.{◌≡◌, ℕ, ◌+◌, ◌-◌, ◌≤◌, List, length, drop, arith}
use Rattle.std.proofs.lemmas.Grind.{common_steps}
use Rattle.std.proofs.lemmas.Slice.{drop-put_mid}

pub put-size : (c n : ℕ) (xs ys : List ℕ) → c + n ≤ length xs → length ys ≡ n → length (put_mid c (c + n - c) xs ys) ≡ length xs
put-size c n xs ys room long =
    let k : c + n - c ≡ n = omega arith in
    rw k (grind (arith, common_steps))

pub put-behind : (c n : ℕ) (xs ys : List ℕ) → c + n ≤ length xs → length ys ≡ n → drop (c + n) (put_mid c (c + n - c) xs ys) ≡ drop (c + n) xs
put-behind c n xs ys room long =
    let k : c + n - c ≡ n = omega arith in
    rw k (drop-put_mid c n xs ys (c + n) (omega arith) (omega arith) long)
