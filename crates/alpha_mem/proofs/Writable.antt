-- The block that a store writes is the first that holds its range, since blocks share no address.
use Rattle.std.proofs.Common.{◌≡◌, ℕ, zero, suc, ◌+◌, ◌<◌, ◌≤◌, Bool, true, false, cond, ◌&&◌, List, [], ◌∷◌, length}
use Rattle.std.proofs.Common.{get_or, set, Option, Some, None, is_some, refl, sym, ap, ◌∙◌, ⊎_elim, arith, position}
use Rattle.std.proofs.Common.{count_by}
use Rattle.std.proofs.lemmas.Bool.{false≢true, and_parts, cond-true}
use Rattle.std.proofs.lemmas.Bool.{cases_lt, cases_eq}
use Rattle.std.proofs.lemmas.List.Quantifiers.{position-Some}
use Rattle.alpha_words.specs.Digits.{low_bytes}
use Rattle.alpha_words.proofs.DigitLemmas.{length-digits}
use Rattle.alpha_mem.specs.declared.access.Size.{Size}
use Rattle.alpha_mem.specs.Size.{size_of}
use Rattle.alpha_mem.specs.Intent.{Store}
use Rattle.alpha_mem.specs.Block.{Block, shape_of, shapes, holds, within, overwritten}
use Rattle.alpha_mem.specs.Memory.{write_bytes, IsLayout}
use Rattle.alpha_mem.proofs.Blocks.{count_by-cons, holds-true, holds-from}
use Rattle.alpha_mem.proofs.Faults.{within-readable, size_of-pos}
use Rattle.alpha_mem.proofs.BlockPlaces.{place-spans, is_some-position, within-writable, within-position}
use Rattle.alpha_mem.proofs.BlockPlaces.{set-at_position}

-- a store may write the block, which holds the range
abbrev pub writable-takes : ℕ → ℕ → Block → Bool
writable-takes a n b = b.writable && holds (shape_of b) a n

count_by-one : {A : Type 0} (p : A → Bool) (xs : List A) (i : ℕ) (d : A) → i < length xs → p (get_or xs i d) ≡ true
    → 1 ≤ count_by p xs
count_by-one p [] i d within h = absurd (omega arith)
count_by-one p (x ∷ xs) zero d within h = omega (arith, count_by-cons p x xs, cond-true {A = ℕ} (p x) 1 0 h)
count_by-one p (x ∷ xs) (suc i) d within h = omega (arith, count_by-cons p x xs, count_by-one p xs i d (omega arith) h)

count_by-two : {A : Type 0} (p : A → Bool) (xs : List A) (i j : ℕ) (d : A) → i < j → j < length xs
    → p (get_or xs i d) ≡ true
    → p (get_or xs j d) ≡ true → 2 ≤ count_by p xs
count_by-two p [] i j d less within h g = absurd (omega arith)
count_by-two p (x ∷ xs) i zero d less within h g = absurd (omega arith)
count_by-two p (x ∷ xs) zero (suc j) d less within h g =
    omega (arith, count_by-cons p x xs, cond-true {A = ℕ} (p x) 1 0 h, count_by-one p xs j d (omega arith) g)
count_by-two p (x ∷ xs) (suc i) (suc j) d less within h g =
    omega (arith, count_by-cons p x xs, count_by-two p xs i j d (omega arith) (omega arith) h g)

-- where at most one element passes, all that pass stand at one place
same_place : {A : Type 0} (p : A → Bool) (xs : List A) (i j : ℕ) (d : A) → count_by p xs ≤ 1 → i < length xs
    → j < length xs → p (get_or xs i d) ≡ true → p (get_or xs j d) ≡ true → i ≡ j
same_place p xs i j d most within inside h g =
    ⊎_elim (λ (e : i ≡ j). e) (λ (e : i ≡ j → ⊥). absurd (⊎_elim (λ (l : i < j). omega (
      arith,
      count_by-two p xs i j d l inside h g,
    )) (λ (l : j ≤ i). omega (arith, count_by-two p xs j i d (omega arith) within g h)) (cases_lt i j))) (cases_eq i j)

count_by-shapes : (m : List Block) (a : ℕ)
    → count_by (λ s. holds s a 1) (shapes m) ≡ count_by (λ b. holds (shape_of b) a 1) m
count_by-shapes [] a = refl
count_by-shapes (b ∷ m) a =
    count_by-cons (λ s. holds s a 1) (shape_of b) (shapes m)
    ∙ (ap (λ k. cond (holds (shape_of b) a 1) 1 0 + k) (count_by-shapes m a)
    ∙ sym (count_by-cons (λ (c : Block). holds (shape_of c) a 1) b m))

-- a block that holds a range holds its first byte
first_byte : (a n : ℕ) (b : Block) → 0 < n → place-spans a n b ≡ true → holds (shape_of b) a 1 ≡ true
first_byte a n b some h =
    let p = holds-true (shape_of b) a n h in
    holds-from (shape_of b) a 1 p.0 (omega arith)

pub position-found_at : (m : List Block) (a n i : ℕ) (o : Option ℕ) → IsLayout (shapes m) → 0 < n → i < length m
    → (d : Block)
    → place-spans a n (get_or m i d) ≡ true → position (place-spans a n) m ≡ o → is_some o ≡ true → o ≡ Some i
position-found_at m a n i None layout some inside d h e there = absurd (false≢true there)
position-found_at m a n i (Some j) layout some inside d h e there =
    let p = position-Some (place-spans a n) m j d e in
    ap Some
    (same_place (λ (b : Block). holds (shape_of b) a 1) m j i d (omega (arith, layout.apart a, count_by-shapes m a)) p.0
    inside (first_byte a n (get_or m j d) some p.1) (first_byte a n (get_or m i d) some h))

-- the first block that a store may write and that holds the range is the first that holds it
pub position-writable_takes : (m : List Block) (a n i : ℕ) (d : Block) → IsLayout (shapes m) → 0 < n
    → position (writable-takes a n) m ≡ Some i → position (place-spans a n) m ≡ Some i
position-writable_takes m a n i d layout some e =
    let p = position-Some (writable-takes a n) m i d e in
    let writes : within (shapes m) Store a n ≡ true =
    within-writable m a n (omega arith) ∙ (sym (is_some-position (writable-takes a n) m) ∙ ap is_some e) in
    let there : is_some (position (place-spans a n) m) ≡ true =
    sym (within-position m a n some) ∙ within-readable (shapes m) a n writes in
    position-found_at m a n i (position (place-spans a n) m) layout some p.0 d (and_parts _ _ p.1).1 refl there

-- a store finds its block exactly where it may write
pub within-place : (m : List Block) (a n : ℕ) → 0 < n
    → within (shapes m) Store a n ≡ is_some (position (writable-takes a n) m)
within-place m a n some = within-writable m a n (omega arith) ∙ sym (is_some-position (writable-takes a n) m)

-- the same, as a search over these blocks answers it
pub place_found : (m rs : List Block) (a n : ℕ) (size : Size) (i : ℕ) → IsLayout (shapes m) → rs ≡ m → n ≡ size_of size
    → Some i ≡ position (writable-takes a n) rs → position (place-spans a (size_of size)) m ≡ Some i
place_found m rs a n size i layout same e found =
    let searched : position (writable-takes a (size_of size)) m ≡ Some i =
    ap (λ k. position (writable-takes a k) m) (sym e) ∙ (ap (position (writable-takes a n)) (sym same) ∙ sym found) in
    position-writable_takes m a (size_of size) i (record { first = 0; bytes = []; writable = false }) layout
    (size_of-pos size) searched

-- a store may write where the search finds a block
pub store_there : (m rs : List Block) (a n : ℕ) (size : Size) (o : Option ℕ) → rs ≡ m → n ≡ size_of size
    → o ≡ position (writable-takes a n) rs → within (shapes m) Store a n ≡ is_some o
store_there m rs a n size o same e found =
    within-place m a n (omega (arith, size_of-pos size))
    ∙ ap is_some (ap (position (writable-takes a n)) (sym same) ∙ sym found)

-- the block at that place, written
pub set-stored : (m : List Block) (a : ℕ) (size : Size) (v i : ℕ) (b c : Block)
    → position (place-spans a (size_of size)) m ≡ Some i → b ≡ get_or m i b
    → c ≡ overwritten b a (low_bytes (size_of size) v) → set m i c ≡ write_bytes m a (low_bytes (size_of size) v)
set-stored m a size v i b c found read written =
    set-at_position m a (low_bytes (size_of size) v) i b c
    (ap (λ n. position (place-spans a n) m) (length-digits 256 (size_of size) v) ∙ found) read written
