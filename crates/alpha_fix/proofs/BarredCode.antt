-- Code with a barrier at each cut has no broken place, and needs each of them.
use Rattle.std.proofs.Common.{◌≡◌, ◌<◌, ◌≤◌, ◌+◌, ◌-◌, ◌++◌, ℕ, zero, suc, Some, List, [], ◌∷◌, length, take, drop}
use Rattle.std.proofs.Common.{slice_get, refl, inr, sym, ◌∙◌, ap, subst, ⊎_elim, arith, length-append, length-take}
use Rattle.std.proofs.Common.{length-drop}
use Rattle.std.proofs.lemmas.Bool.{cases_lt}
use Rattle.alpha_table.specs.declared.columns.InsnKind.TheVariants as kinds
use Rattle.alpha_table.specs.Code.{class_at}
use Rattle.alpha_table.specs.Words.{class_in}
use Rattle.alpha_shadow.specs.declared.broken.Condition.{Condition}
use Rattle.alpha_shadow.specs.declared.broken.Condition.TheVariants.{ZeroDestination, SourceLost, SameDestination}
use Rattle.alpha_shadow.specs.declared.broken.Condition.TheVariants.{WildBase, LoadThenStore, Locked, Turn, Open, Long}
use Rattle.alpha_shadow.specs.Code.{kind_at}
use Rattle.alpha_shadow.specs.Broken.{IsBroken, IsAccepted}
use Rattle.alpha_shadow.proofs.WordColumns.{kind_within, no_access, no_set}
use Rattle.alpha_shadow.proofs.Decided.{IsBroken-not_past_end}
use Rattle.alpha_fix.specs.Cuts.{BreaksAbove, IsNextCut, AreCutsAbove, AreCuts, trapb, barred_from, barred, without}
use Rattle.alpha_fix.specs.Cuts.{HasBroken, NoneAlone}
use Rattle.alpha_fix.proofs.StretchesAlike.{LooksAlike-same_word, Stretch, broken_along}

-- the items of a list in parts

slice_get-append_front : (front rest : List ℕ) (k : ℕ) → k < length front
    → slice_get (front ++ rest) k ≡ slice_get front k
slice_get-append_front [] rest k h = absurd (omega arith)
slice_get-append_front (x ∷ front) rest zero h = refl
slice_get-append_front (x ∷ front) rest (suc k) h = slice_get-append_front front rest k (omega arith)

get_past : (front : List ℕ) (x : ℕ) (rest : List ℕ) (k : ℕ)
    → slice_get (front ++ x ∷ rest) (suc (length front + k)) ≡ slice_get rest k
get_past [] x rest k = let e : 0 + k ≡ k = omega arith in ap (slice_get rest) e
get_past (y ∷ front) x rest k =
    let e : suc (suc (length front) + k) ≡ suc (suc (length front + k)) = omega arith in
    ap (slice_get (y ∷ (front ++ x ∷ rest))) e ∙ get_past front x rest k

get_at : (front : List ℕ) (x : ℕ) (rest : List ℕ) → slice_get (front ++ x ∷ rest) (length front) ≡ Some x
get_at [] x rest = refl
get_at (y ∷ front) x rest = get_at front x rest

get_drop : (n : ℕ) (xs : List ℕ) (k : ℕ) → slice_get (drop n xs) k ≡ slice_get xs (n + k)
get_drop zero xs k = let e : k ≡ 0 + k = omega arith in ap (slice_get xs) e
get_drop (suc n) [] k = refl
get_drop (suc n) (x ∷ xs) k =
    let e : suc (n + k) ≡ suc n + k = omega arith in
    get_drop n xs k ∙ ap (slice_get (x ∷ xs)) e

get_take : (n : ℕ) (xs : List ℕ) (k : ℕ) → k < n → slice_get (take n xs) k ≡ slice_get xs k
get_take zero xs k h = absurd (omega arith)
get_take (suc n) [] k h = refl
get_take (suc n) (x ∷ xs) zero h = refl
get_take (suc n) (x ∷ xs) (suc k) h = get_take n xs k (omega arith)

-- where shadows stand alike

-- in the code from a place on
pub Stretch-from_suffix : (code : List ℕ) (from t at : ℕ) → from ≤ length code → t ≤ at
    → Stretch (drop from code) t at code (from + t) (from + at)
Stretch-from_suffix code from t at within o = record {
  shift = omega arith;
  alike =
      λ k j above below e. LooksAlike-same_word (drop from code) k code j
      (get_drop from code k ∙ ap (slice_get code) (let f : from + k ≡ j = omega arith in f));
  within = λ h. omega (arith, length-drop from code);
  ends = λ h. omega (arith, length-drop from code);
}

pub Stretch-to_suffix : (code : List ℕ) (from t at : ℕ) → from ≤ length code → from ≤ t → t ≤ at
    → Stretch code t at (drop from code) (t - from) (at - from)
Stretch-to_suffix code from t at within since o = record {
  shift = omega arith;
  alike =
      λ k j above below e. LooksAlike-same_word code k (drop from code) j
      (ap (slice_get code) (let f : k ≡ from + j = omega arith in f) ∙ sym (get_drop from code j));
  within = λ h. omega (arith, length-drop from code);
  ends = λ h. omega (arith, length-drop from code);
}

-- in a piece of the code before a barrier
pub piece_length : (code : List ℕ) (from cut : ℕ) → from ≤ cut → cut ≤ length code
    → length (take (cut - from) (drop from code)) ≡ cut - from
piece_length code from cut o within = simp (length-take, length-drop) (omega arith)

get_piece : (code : List ℕ) (from cut : ℕ) (rest : List ℕ) (k : ℕ) → from ≤ cut → cut ≤ length code → k < cut - from
    → slice_get (take (cut - from) (drop from code) ++ rest) k ≡ slice_get code (from + k)
get_piece code from cut rest k o within h =
    let e : length (take (cut - from) (drop from code)) ≡ cut - from = piece_length code from cut o within in
    slice_get-append_front (take (cut - from) (drop from code)) rest k (omega arith)
    ∙ (get_take (cut - from) (drop from code) k h ∙ get_drop from code k)

out_of_piece : (code : List ℕ) (from cut : ℕ) (rest : List ℕ) (t at : ℕ) → from ≤ cut → cut ≤ length code → t ≤ at
    → at < cut - from
    → Stretch (take (cut - from) (drop from code) ++ rest) t at code (from + t) (from + at)
out_of_piece code from cut rest t at o within p below = record {
  shift = omega arith;
  alike =
      λ k j above last e. LooksAlike-same_word (take (cut - from) (drop from code) ++ rest) k code j
      (get_piece code from cut rest k o within (omega arith)
      ∙ ap (slice_get code) (let f : from + k ≡ j = omega arith in f));
  within = λ h. omega arith;
  ends = λ h.
      let e : length (take (cut - from) (drop from code)) ≡ cut - from = piece_length code from cut o within in
      absurd (omega (arith, length-append (take (cut - from) (drop from code)) rest));
}

into_piece : (code : List ℕ) (from cut : ℕ) (rest : List ℕ) (t at : ℕ) → from ≤ cut → cut ≤ length code → from ≤ t
    → t ≤ at → at < cut
    → Stretch code t at (take (cut - from) (drop from code) ++ rest) (t - from) (at - from)
into_piece code from cut rest t at o within since p below = record {
  shift = omega arith;
  alike =
      λ k j above last e. LooksAlike-same_word code k (take (cut - from) (drop from code) ++ rest) j
      (ap (slice_get code) (let f : k ≡ from + j = omega arith in f)
      ∙ sym (get_piece code from cut rest j o within (omega arith)));
  within = λ h.
      let e : length (take (cut - from) (drop from code)) ≡ cut - from = piece_length code from cut o within in
      omega (arith, length-append (take (cut - from) (drop from code)) rest);
  ends = λ h. absurd (omega arith);
}

-- behind a barrier
Stretch-behind_barrier : (front : List ℕ) (x : ℕ) (rest : List ℕ) (t at : ℕ) → length front < t → t ≤ at
    → Stretch (front ++ x ∷ rest) t at rest (t - suc (length front)) (at - suc (length front))
Stretch-behind_barrier front x rest t at above o = record {
  shift = omega arith;
  alike =
      λ k j a l e. LooksAlike-same_word (front ++ x ∷ rest) k rest j
      (ap (slice_get (front ++ x ∷ rest)) (let f : k ≡ suc (length front + j) = omega arith in f)
      ∙ get_past front x rest j);
  within = λ h. omega (arith, length-append front (x ∷ rest));
  ends = λ h. omega (arith, length-append front (x ∷ rest));
}

Stretch-next : (front : List ℕ) (x : ℕ) (rest : List ℕ) (t at : ℕ) → t ≤ at
    → Stretch rest t at (front ++ x ∷ rest) (suc (length front + t)) (suc (length front + at))
Stretch-next front x rest t at o = record {
  shift = omega arith;
  alike =
      λ k j a l e. LooksAlike-same_word rest k (front ++ x ∷ rest) j
      (sym (get_past front x rest k)
      ∙ ap (slice_get (front ++ x ∷ rest)) (let f : suc (length front + k) ≡ j = omega arith in f));
  within = λ h. omega (arith, length-append front (x ∷ rest));
  ends = λ h. omega (arith, length-append front (x ∷ rest));
}

-- the word of TRAPB is a barrier
trapb_kind : (code : List ℕ) (at : ℕ) → slice_get code at ≡ Some trapb → kind_at code at ≡ Some kinds.Barrier
unfolding class_at class_in
trapb_kind code at is = rw is refl

-- a barrier breaks nothing by itself
barrier_sound : (code : List ℕ) (t at : ℕ) (c : Condition) → kind_at code at ≡ Some kinds.Barrier → IsBroken code t at c
    → ⊥
barrier_sound code t at ZeroDestination k b =
    let e : at ≡ t = b.holds.0 in
    let f = ap (kind_at code) e in
    let g = b.trigger_kind in
    cc
barrier_sound code t at SourceLost k b = let n = no_set code at k in let h = b.holds.1 in cc
barrier_sound code t at SameDestination k b = let h = b.holds.1 in cc
barrier_sound code t at WildBase k b =
    let n = no_access code at kinds.Barrier k (inr (inr (inr refl))) in
    let h = b.holds.1.1 in
    cc
barrier_sound code t at LoadThenStore k b = let h = b.holds.3.1.1.2 in cc
barrier_sound code t at Locked k b = let h = b.holds in cc
barrier_sound code t at Turn k b = let h = b.holds in cc
barrier_sound code t at Open k b =
    let w = kind_within code at kinds.Barrier k in
    let h : at ≡ length code = b.holds in
    absurd (omega arith)
barrier_sound code t at Long k b = b.holds.2 k

pub broken_within : (code : List ℕ) (t at : ℕ) (c : Condition) → IsBroken code t at c → at ≤ length code
broken_within code t at c b =
    ⊎_elim (λ (past : length code < at). absurd (IsBroken-not_past_end code t at c past b))
    (λ (l : at ≤ length code). l)
    (cases_lt (length code) at)

pub cut_within : (code : List ℕ) (from cut : ℕ) → IsNextCut code from cut → cut ≤ length code
cut_within code from cut n = broken_within code n.breaks.trigger cut n.breaks.condition n.breaks.broken

-- no place is broken

none_behind : (code : List ℕ) (from : ℕ) → NoneAlone code → from ≤ length code
    → ((at : ℕ) → BreaksAbove code from at → ⊥)
    → (t at : ℕ) (c : Condition) → IsBroken (drop from code) t at c → ⊥
none_behind code from alone within none t at c b =
    let o : t ≤ at = b.order in
    let m : IsBroken code (from + t) (from + at) c =
    broken_along (drop from code) t at code (from + t) (from + at) (Stretch-from_suffix code from t at within o) c b in
    ⊎_elim
    (λ (l : 0 < at). none (from + at)
    (record { above = omega arith; trigger = from + t; since = omega arith; condition = c; broken = m }))
    (λ (z : at ≤ 0). let e : from + at ≡ from + t = omega arith in
    alone (from + t) c (subst (λ n. IsBroken code (from + t) n c) e m))
    (cases_lt 0 at)

none_before : (code : List ℕ) (from cut : ℕ) (rest : List ℕ) → NoneAlone code → cut ≤ length code
    → IsNextCut code from cut
    → (t at : ℕ) (c : Condition) → at < cut - from → IsBroken (take (cut - from) (drop from code) ++ rest) t at c → ⊥
none_before code from cut rest alone within next t at c below b =
    let o : t ≤ at = b.order in
    let above : from < cut = next.breaks.above in
    let m : IsBroken code (from + t) (from + at) c =
    broken_along (take (cut - from) (drop from code) ++ rest) t at code (from + t) (from + at)
    (out_of_piece code from cut rest t at (omega arith) within o below) c b in
    ⊎_elim
    (λ (l : 0 < at). let least = next.least (from + at)
    (record { above = omega arith; trigger = from + t; since = omega arith; condition = c; broken = m }) in
    omega arith)
    (λ (z : at ≤ 0). let e : from + at ≡ from + t = omega arith in
    alone (from + t) c (subst (λ n. IsBroken code (from + t) n c) e m))
    (cases_lt 0 at)

-- a trigger before a barrier breaks no place past it
none_through : (front rest : List ℕ) (t at : ℕ) (c : Condition) → t ≤ length front → length front < at
    → IsBroken (front ++ trapb ∷ rest) t at c → ⊥
none_through front rest t at c o above b =
    (b.straight (length front) o above).0 (trapb_kind (front ++ trapb ∷ rest) (length front) (get_at front trapb rest))

accepted_from : (code : List ℕ) (from : ℕ) (cuts : List ℕ) → NoneAlone code → from ≤ length code
    → AreCutsAbove code from cuts
    → (t at : ℕ) (c : Condition) → IsBroken (barred_from code from cuts) t at c → ⊥
accepted_from code from [] alone within cuts t at c b = none_behind code from alone within cuts t at c b
accepted_from code from (cut ∷ cuts) alone within (next, more) t at c b =
    let below : cut ≤ length code = cut_within code from cut next in
    let above : from < cut = next.breaks.above in
    let front : List ℕ = take (cut - from) (drop from code) in
    let rest : List ℕ = barred_from code cut cuts in
    let e : length front ≡ cut - from = piece_length code from cut (omega arith) below in
    let o : t ≤ at = b.order in
    ⊎_elim
    (λ (late : length front < t).
    accepted_from code cut cuts alone below more (t - suc (length front)) (at - suc (length front)) c
    (broken_along (front ++ trapb ∷ rest) t at rest (t - suc (length front)) (at - suc (length front))
    (Stretch-behind_barrier front trapb rest t at late o) c b))
    (λ (early : t ≤ length front).
    ⊎_elim
    (λ (l : length front < at). none_through front rest t at c early l b)
    (λ (l : at ≤ length front).
    ⊎_elim
    (λ (f : at < length front). none_before code from cut (trapb ∷ rest) alone below next t at c (omega arith) b)
    (λ (f : length front ≤ at).
    let same : length front ≡ at = omega arith in
    barrier_sound (front ++ trapb ∷ rest) t at c
    (trapb_kind (front ++ trapb ∷ rest) at
    (ap (slice_get (front ++ trapb ∷ rest)) (sym same) ∙ get_at front trapb rest))
    b)
    (cases_lt at (length front)))
    (cases_lt (length front) at))
    (cases_lt (length front) t)

pub barred-IsAccepted : (code cuts : List ℕ) → NoneAlone code → AreCuts code cuts → IsAccepted (barred code cuts)
barred-IsAccepted code cuts alone are t at c b = accepted_from code 0 cuts alone (omega arith) are t at c b

-- a barrier that is missing leaves its cut broken

still_broken : (code : List ℕ) (from cut : ℕ) (cuts : List ℕ) → from ≤ length code → IsNextCut code from cut
    → AreCutsAbove code cut cuts → HasBroken (barred_from code from cuts)
still_broken code from cut [] within next more =
    let b = next.breaks in
    let o : b.trigger ≤ cut = b.broken.order in
    record {
      trigger = b.trigger - from;
      at = cut - from;
      condition = b.condition;
      broken =
          broken_along code b.trigger cut (drop from code) (b.trigger - from) (cut - from)
          (Stretch-to_suffix code from b.trigger cut within b.since o) b.condition b.broken;
    }
still_broken code from cut (second ∷ cuts) within next (following, more) =
    let b = next.breaks in
    let o : b.trigger ≤ cut = b.broken.order in
    let rest : List ℕ = trapb ∷ barred_from code second cuts in
    let above : from < cut = b.above in
    let later : cut < second = following.breaks.above in
    record {
      trigger = b.trigger - from;
      at = cut - from;
      condition = b.condition;
      broken =
          broken_along code b.trigger cut (take (second - from) (drop from code) ++ rest) (b.trigger - from)
          (cut - from)
          (into_piece code from second rest b.trigger cut (omega arith)
          (cut_within code cut second following) b.since o later) b.condition b.broken;
    }

needed_from : (code : List ℕ) (from : ℕ) (cuts : List ℕ) (j : ℕ) → from ≤ length code → AreCutsAbove code from cuts
    → j < length cuts → HasBroken (barred_from code from (without j cuts))
needed_from code from [] j within are h = absurd (omega arith)
needed_from code from (cut ∷ cuts) zero within (next, more) h = still_broken code from cut cuts within next more
needed_from code from (cut ∷ cuts) (suc j) within (next, more) h =
    let front : List ℕ = take (cut - from) (drop from code) in
    let rest : List ℕ = barred_from code cut (without j cuts) in
    let b : HasBroken rest = needed_from code cut cuts j (cut_within code from cut next) more (omega arith) in
    record {
      trigger = suc (length front + b.trigger);
      at = suc (length front + b.at);
      condition = b.condition;
      broken =
          broken_along rest b.trigger b.at (front ++ trapb ∷ rest) (suc (length front + b.trigger))
          (suc (length front + b.at))
          (Stretch-next front trapb rest b.trigger b.at b.broken.order) b.condition b.broken;
    }

pub cut-needed : (code cuts : List ℕ) (j : ℕ) → AreCuts code cuts → j < length cuts
    → HasBroken (barred code (without j cuts))
cut-needed code cuts j are h = needed_from code 0 cuts j (omega arith) are h

-- the cuts of code are one list

one_from : (code : List ℕ) (from : ℕ) (a b : List ℕ) → AreCutsAbove code from a → AreCutsAbove code from b → a ≡ b
one_from code from [] [] f g = refl
one_from code from [] (y ∷ b) f (next, more) = absurd (f y next.breaks)
one_from code from (x ∷ a) [] (next, more) g = absurd (g x next.breaks)
one_from code from (x ∷ a) (y ∷ b) (next, more) (other, rest) =
    let l = next.least y other.breaks in
    let m = other.least x next.breaks in
    let e : x ≡ y = omega arith in
    ap (λ n. n ∷ a) e ∙ ap (λ c. y ∷ c) (one_from code y a b (subst (λ n. AreCutsAbove code n a) e more) rest)

pub AreCuts-single : (code a b : List ℕ) → AreCuts code a → AreCuts code b → a ≡ b
AreCuts-single code a b f g = one_from code 0 a b f g
