-- Which block holds a range, and what a block holds after a write.
use Rattle.std.proofs.Common.{◌≡◌, ℕ, ◌+◌, ◌-◌, ◌<◌, ◌≤◌, Bool, true, false, cond, ◌||◌, leb, List, [], ◌∷◌, ◌++◌}
use Rattle.std.proofs.Common.{length, get_or, take, drop, map, refl, sym, ap, ◌∙◌, ⊎_elim, arith, count_by}
use Rattle.std.specs.List.{list_any, AllByRecursion}
use Rattle.std.proofs.lemmas.Bool.{false≢true, and_parts, and_from, or_cases, or_left, or_right, or_parts, leb-true}
use Rattle.std.proofs.lemmas.Bool.{le-leb, cond-true, cond-false, false_from_ne_true}
use Rattle.std.proofs.lemmas.List.{places, length-append, length-take, length-drop}
use Rattle.std.proofs.lemmas.List.Sums.{sum_by-cons}
use Rattle.alpha_mem.specs.Block.{Block, Shape, shape_of, holds, overwritten}

-- what the test of a block says
pub holds-true : (s : Shape) (a n : ℕ) → holds s a n ≡ true → (s.first ≤ a) × (a + n ≤ s.first + s.size)
holds-true s a n h =
    let p = and_parts (leb s.first a) (leb (a + n) (s.first + s.size)) h in
    (leb-true _ _ p.0, leb-true _ _ p.1)

pub holds-from : (s : Shape) (a n : ℕ) → s.first ≤ a → a + n ≤ s.first + s.size → holds s a n ≡ true
holds-from s a n p q = and_from _ _ (le-leb _ _ p) (le-leb _ _ q)

pub list_any-map : {A B : Type 0} (p : B → Bool) (f : A → B) (xs : List A)
    → list_any p (map f xs) ≡ list_any (λ x. p (f x)) xs
list_any-map p f [] = refl
list_any-map p f (x ∷ xs) = ap (λ b. p (f x) || b) (list_any-map p f xs)

pub all_units : {A : Type 0} (xs : List A) → AllByRecursion (λ s. Unit {0}) xs
all_units [] = tt
all_units (x ∷ xs) = (tt, all_units xs)

-- what passes one test passes a weaker one
pub list_any-weaker : {A : Type 0} (P : A → Type 0) (p q : A → Bool) (xs : List A) → AllByRecursion P xs
    → ((x : A) → P x → p x ≡ true → q x ≡ true) → list_any p xs ≡ true → list_any q xs ≡ true
list_any-weaker P p q [] all weaker h = h
list_any-weaker P p q (x ∷ xs) all weaker h =
    ⊎_elim (λ (e : p x ≡ true). or_left (q x) _ (weaker x all.0 e))
    (λ (e : list_any p xs ≡ true). or_right (q x) _ (list_any-weaker P p q xs all.1 weaker e))
    (or_cases (p x) (list_any p xs) h)

pub count_by-cons : {A : Type 0} (p : A → Bool) (x : A) (xs : List A)
    → count_by p (x ∷ xs) ≡ cond (p x) 1 0 + count_by p xs
count_by-cons p x xs = sum_by-cons (λ y. cond (p y) 1 0) x xs

pub count_by-pos : {A : Type 0} (p : A → Bool) (xs : List A) → list_any p xs ≡ true → 0 < count_by p xs
count_by-pos p [] h = absurd (false≢true h)
count_by-pos p (x ∷ xs) h =
    ⊎_elim (λ (e : p x ≡ true). omega (arith, count_by-cons p x xs, cond-true {A = ℕ} (p x) 1 0 e))
    (λ (e : list_any p xs ≡ true). omega (arith, count_by-cons p x xs, count_by-pos p xs e))
    (or_cases (p x) (list_any p xs) h)

pub count_by-none : {A : Type 0} (p : A → Bool) (xs : List A) → list_any p xs ≡ false → count_by p xs ≡ 0
count_by-none p [] h = refl
count_by-none p (x ∷ xs) h =
    let q = or_parts (p x) (list_any p xs) h in
    omega (arith, count_by-cons p x xs, cond-false {A = ℕ} (p x) 1 0 q.0, count_by-none p xs q.1)

-- where at most one element passes, so it is in the rest, and none there passes if the first does
pub count_by-one_rest : {A : Type 0} (p : A → Bool) (x : A) (xs : List A) → count_by p (x ∷ xs) ≤ 1 → count_by p xs ≤ 1
count_by-one_rest p x xs h = omega (arith, count_by-cons p x xs)

pub count_by-one_first : {A : Type 0} (p : A → Bool) (x : A) (xs : List A) → count_by p (x ∷ xs) ≤ 1 → p x ≡ true
    → list_any p xs ≡ false
count_by-one_first p x xs h e =
    false_from_ne_true _
    (λ some. omega (arith, count_by-cons p x xs, cond-true {A = ℕ} (p x) 1 0 e, count_by-pos p xs some))

-- two tests that only the one element passes that passes a third are passed by one element
pub one_passes_both : {A : Type 0} (P : A → Type 0) (p q r c : A → Bool) (xs : List A)
    → ((x : A) → P x → p x ≡ true → c x ≡ true) → ((x : A) → P x → q x ≡ true → c x ≡ true)
    → ((x : A) → P x → p x ≡ true → q x ≡ true → r x ≡ true) → AllByRecursion P xs → count_by c xs ≤ 1
    → list_any p xs ≡ true → list_any q xs ≡ true → list_any r xs ≡ true
one_passes_both {A = A} P p q r c [] pc qc pqr all one hp hq = hp
one_passes_both {A = A} P p q r c (x ∷ xs) pc qc pqr all one hp hq =
    let alone : (s : A → Bool) → ((y : A) → P y → s y ≡ true → c y ≡ true) → c x ≡ true → list_any s xs ≡ true → ⊥ =
    λ s weaker here some.
    false≢true (sym (count_by-one_first c x xs one here) ∙ list_any-weaker P s c xs all.1 weaker some) in
    let first : p x ≡ true → q x ≡ true → list_any r (x ∷ xs) ≡ true =
    λ e f. or_left (r x) _ (pqr x all.0 e f) in
    let rest : list_any p xs ≡ true → list_any q xs ≡ true → list_any r (x ∷ xs) ≡ true =
    λ e f. or_right (r x) _ (one_passes_both P p q r c xs pc qc pqr all.1 (count_by-one_rest c x xs one) e f) in
    ⊎_elim (λ (e : p x ≡ true). ⊎_elim (λ (f : q x ≡ true). first e f)
    (λ (f : list_any q xs ≡ true). absurd (alone q qc (pc x all.0 e) f)) (or_cases (q x) (list_any q xs) hq))
    (λ (e : list_any p xs ≡ true). ⊎_elim (λ (f : q x ≡ true). absurd (alone p pc (qc x all.0 f) e))
    (λ (f : list_any q xs ≡ true). rest e f) (or_cases (q x) (list_any q xs) hq))
    (or_cases (p x) (list_any p xs) hp)

-- a write leaves the block where it lies
pub shape-overwritten : (b : Block) (a : ℕ) (xs : List ℕ) → holds (shape_of b) a (length xs) ≡ true
    → shape_of (overwritten b a xs) ≡ shape_of b
shape-overwritten b a xs h =
    let p = holds-true (shape_of b) a (length xs) h in
    let sized : ℕ → Shape = λ n. record { first = b.first; size = n; writable = b.writable } in
    let i = a - b.first in
    ap sized (omega (
      arith,
      length-append (take i b.bytes) (xs ++ drop (i + length xs) b.bytes),
      length-append xs (drop (i + length xs) b.bytes),
      length-take i b.bytes,
      length-drop (i + length xs) b.bytes,
    ))

pub get_or-overwritten_below : (l xs : List ℕ) (i k : ℕ) → i ≤ length l → k < i
    → get_or (take i l ++ (xs ++ drop (i + length xs) l)) k 0 ≡ get_or l k 0
get_or-overwritten_below l xs i k p q = grind (arith, places)

pub get_or-overwritten_above : (l xs : List ℕ) (i k : ℕ) → i + length xs ≤ length l → i + length xs ≤ k
    → get_or (take i l ++ (xs ++ drop (i + length xs) l)) k 0 ≡ get_or l k 0
get_or-overwritten_above l xs i k p q = grind (arith, places)

pub get_or-overwritten_inside : (l xs : List ℕ) (i k : ℕ) → i ≤ length l → i ≤ k → k < i + length xs
    → get_or (take i l ++ (xs ++ drop (i + length xs) l)) k 0 ≡ get_or xs (k - i) 0
get_or-overwritten_inside l xs i k p q r = grind (arith, places)
