-- A chooser that goes on by some words and then by others.
use Rattle.std.specs.Prelude.{slice_index}
use Rattle.std.proofs.Common.{◌≡◌, ◌<◌, ◌≤◌, ◌+◌, ◌-◌, ◌^◌, ℕ, List, ◌++◌, length, Option, Some, None, refl, sym, ap}
use Rattle.std.proofs.Common.{◌∙◌, ⊎_elim, arith}
use Rattle.std.proofs.lemmas.Bool.{cases_lt}
use Rattle.std.proofs.lemmas.List.{length-append, get_or_append_left, get_or-append_right}
use Rattle.std.proofs.lemmas.List.Elements.{All-append}
use Rattle.alpha_imprecise.specs.Oracle.{Oracle, ConsumesWords, CountsWords, OracleDraws}

goes_then : (a b d : Option (ℕ → ℕ)) (xs ys : List ℕ) → ConsumesWords a b xs → ConsumesWords b d ys
    → ConsumesWords a d (xs ++ ys)
goes_then None b d xs ys first second = tt
goes_then (Some f) None d xs ys first second = absurd first
goes_then (Some f) (Some h) None xs ys first second = absurd second
goes_then (Some f) (Some h) (Some k) xs ys first second = (firsts, rests)
  where
    later : (n : ℕ) → length xs ≤ n → n < length (xs ++ ys) → f n ≡ slice_index (xs ++ ys) n
    later n above below =
        let size = length-append xs ys in
        let back : n ≡ length xs + (n - length xs) = omega arith in
        ap f back
        ∙ (sym (first.1 (n - length xs))
        ∙ (second.0 (n - length xs) (omega arith) ∙ sym (get_or-append_right xs ys (length xs) n 0 refl above)))

    firsts : (n : ℕ) → n < length (xs ++ ys) → f n ≡ slice_index (xs ++ ys) n
    firsts n below =
        ⊎_elim
        (λ (early : n < length xs). first.0 n early ∙ sym (get_or_append_left xs ys 0 n early))
        (λ (late : length xs ≤ n). later n late below)
        (cases_lt n (length xs))

    rests : (n : ℕ) → k n ≡ f (length (xs ++ ys) + n)
    rests n =
        let size = length-append xs ys in
        let place : length xs + (length ys + n) ≡ length (xs ++ ys) + n = omega arith in
        second.1 n ∙ (first.1 (length ys + n) ∙ ap f place)

counts_then : (a b d : Option ℕ) (n m k : ℕ) → k ≡ n + m → CountsWords a b n → CountsWords b d m → CountsWords a d k
counts_then None b d n m k e first second = tt
counts_then (Some i) None d n m k e first second = absurd first
counts_then (Some i) (Some j) None n m k e first second = absurd second
counts_then (Some i) (Some j) (Some l) n m k e first second = omega arith

pub OracleDraws-then : (a b d : Oracle) (xs ys : List ℕ) → OracleDraws a b xs → OracleDraws b d ys
    → OracleDraws a d (xs ++ ys)
OracleDraws-then a b d xs ys first second = record {
  fit = All-append (λ (word : ℕ). word < 2 ^ 64) xs ys first.fit second.fit;
  went = goes_then a.ahead b.ahead d.ahead xs ys first.went second.went;
  counted =
      counts_then a.count b.count d.count (length xs) (length ys) (length (xs ++ ys))
      (length-append xs ys) first.counted second.counted;
}
