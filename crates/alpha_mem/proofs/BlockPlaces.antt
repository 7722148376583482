-- The first block that holds a range, by its place in the list.
use Rattle.std.proofs.Common.{◌≡◌, ℕ, zero, suc, ◌+◌, ◌<◌, Bool, true, false, cond, not, ◌&&◌, ◌||◌, ltb, List, [], ◌∷◌}
use Rattle.std.proofs.Common.{length, get_or, set, Some, None, is_some, refl, sym, ap, ◌∙◌, ⊎_elim, arith, position}
use Rattle.std.specs.List.{list_any, position_or_len}
use Rattle.std.proofs.lemmas.Bool.{cond-true, cond-false, cond_both, or_parts, or_left, lt-ltb, cases_Bool}
use Rattle.std.proofs.lemmas.Bool.Decides.{nat_tests}
use Rattle.std.proofs.lemmas.List.Quantifiers.{position-Some}
use Rattle.alpha_mem.specs.Intent.{Load, Store}
use Rattle.alpha_mem.specs.Block.{Block, shape_of, shapes, holds, within, part, overwritten}
use Rattle.alpha_mem.specs.Memory.{bytes_at, write_bytes}
use Rattle.alpha_mem.proofs.Blocks.{list_any-map}
use Rattle.alpha_mem.proofs.Faults.{within-one_block}

-- the block holds the range
abbrev pub place-spans : ℕ → ℕ → Block → Bool
place-spans a n b = holds (shape_of b) a n

is_some-cond : (b : Bool) (i : ℕ) → is_some (cond b (Some i) None) ≡ b
is_some-cond true i = refl
is_some-cond false i = refl

one_on : (a b : ℕ) → ltb (1 + a) (suc b) ≡ ltb a b
one_on a b = grind (arith, nat_tests)

some_place : {A : Type 0} (p : A → Bool) (xs : List A) → ltb (position_or_len p xs) (length xs) ≡ list_any p xs
some_place p [] = refl
some_place p (x ∷ xs) =
    let at : Bool → ℕ = λ b. cond (not b) (1 + position_or_len p xs) 0 in
    ⊎_elim (λ (e : p x ≡ true). lt-ltb _ _ (omega (arith, ap at e)) ∙ sym (or_left (p x) (list_any p xs) e))
    (λ (e : p x ≡ false). ap (λ b. ltb (at b) (suc (length xs))) e
    ∙ (one_on (position_or_len p xs) (length xs) ∙ (some_place p xs ∙ sym (ap (λ b. b || list_any p xs) e))))
    (cases_Bool (p x))

-- some element passes where there is a first that does
pub is_some-position : {A : Type 0} (p : A → Bool) (xs : List A) → is_some (position p xs) ≡ list_any p xs
is_some-position p xs = is_some-cond (ltb (position_or_len p xs) (length xs)) (position_or_len p xs) ∙ some_place p xs

first_bytes : (m : List Block) (a n i : ℕ) (d : Block) → i < length m → place-spans a n (get_or m i d) ≡ true
    → ((k : ℕ) → k < i → place-spans a n (get_or m k d) ≡ false) → bytes_at m a n ≡ part (get_or m i d) a n
unfolding bytes_at
first_bytes [] a n i d within here before = absurd (omega arith)
first_bytes (b ∷ m) a n zero d within here before = cond-true _ _ _ here
first_bytes (b ∷ m) a n (suc i) d within here before =
    cond-false _ _ _ (before 0 (omega arith))
    ∙ first_bytes m a n i d (omega arith) here (λ k less. before (suc k) (omega arith))

first_written : (m : List Block) (a : ℕ) (xs : List ℕ) (i : ℕ) (d : Block)
    → i < length m → place-spans a (length xs) (get_or m i d) ≡ true
    → ((k : ℕ) → k < i → place-spans a (length xs) (get_or m k d) ≡ false)
    → write_bytes m a xs ≡ set m i (overwritten (get_or m i d) a xs)
unfolding write_bytes
first_written [] a xs i d within here before = absurd (omega arith)
first_written (b ∷ m) a xs zero d within here before = cond-true _ _ _ here
first_written (b ∷ m) a xs (suc i) d within here before =
    cond-false _ _ _ (before 0 (omega arith))
    ∙ ap (λ (n : List Block). b ∷ n)
    (first_written m a xs i d (omega arith) here (λ k less. before (suc k) (omega arith)))

-- what the first block that holds the range has there
pub bytes_at-position : (m : List Block) (a n i : ℕ) (d : Block) → position (place-spans a n) m ≡ Some i
    → bytes_at m a n ≡ part (get_or m i d) a n
bytes_at-position m a n i d e =
    let p = position-Some (place-spans a n) m i d e in
    first_bytes m a n i d p.0 p.1 p.2

-- a write changes the first block that holds the range
pub write_bytes-position : (m : List Block) (a : ℕ) (xs : List ℕ) (i : ℕ) (d : Block)
    → position (place-spans a (length xs)) m ≡ Some i → write_bytes m a xs ≡ set m i (overwritten (get_or m i d) a xs)
write_bytes-position m a xs i d e =
    let p = position-Some (place-spans a (length xs)) m i d e in
    first_written m a xs i d p.0 p.1 p.2

-- where no block holds the range, a write changes nothing
pub write_bytes-none : (m : List Block) (a : ℕ) (xs : List ℕ) → list_any (place-spans a (length xs)) m ≡ false
    → write_bytes m a xs ≡ m
unfolding write_bytes
write_bytes-none [] a xs none = refl
write_bytes-none (b ∷ m) a xs none =
    let p = or_parts (place-spans a (length xs) b) (list_any (place-spans a (length xs)) m) none in
    cond-false _ _ _ p.0 ∙ ap (λ (n : List Block). b ∷ n) (write_bytes-none m a xs p.1)

pub within-position : (m : List Block) (a n : ℕ) → 0 < n
    → within (shapes m) Load a n ≡ is_some (position (place-spans a n) m)
within-position m a n p =
    within-one_block (shapes m) Load a n p
    ∙ (list_any-map (λ s. holds s a n) shape_of m ∙ sym (is_some-position (place-spans a n) m))

pub within-found : (m : List Block) (a n i : ℕ) → (n ≡ 0 → ⊥) → position (place-spans a n) m ≡ Some i
    → within (shapes m) Load a n ≡ true
within-found m a n i some e = within-position m a n (omega arith) ∙ ap is_some e

pub within-missing : (m : List Block) (a n : ℕ) → (n ≡ 0 → ⊥) → position (place-spans a n) m ≡ None
    → within (shapes m) Load a n ≡ false
within-missing m a n some e = within-position m a n (omega arith) ∙ ap is_some e

pub bytes_at-empty : (m : List Block) (a : ℕ) → bytes_at m a 0 ≡ []
unfolding bytes_at
bytes_at-empty [] a = refl
bytes_at-empty (b ∷ m) a =
    cond_both (place-spans a 0 b) [] (bytes_at m a 0) (λ z. z ≡ []) (λ e. refl) (λ e. bytes_at-empty m a)

-- the block at the place of the first that holds the range
pub place-spans-at_position : (m : List Block) (a n i : ℕ) (b : Block) → position (place-spans a n) m ≡ Some i
    → b ≡ get_or m i b → place-spans a n b ≡ true
place-spans-at_position m a n i b e read = ap (place-spans a n) read ∙ (position-Some (place-spans a n) m i b e).1

pub part-at_position : (m : List Block) (a n i : ℕ) (b : Block) → position (place-spans a n) m ≡ Some i
    → b ≡ get_or m i b → part b a n ≡ bytes_at m a n
part-at_position m a n i b e read = ap (λ (c : Block). part c a n) read ∙ sym (bytes_at-position m a n i b e)

pub set-at_position : (m : List Block) (a : ℕ) (xs : List ℕ) (i : ℕ) (b c : Block)
    → position (place-spans a (length xs)) m ≡ Some i → b ≡ get_or m i b → c ≡ overwritten b a xs
    → set m i c ≡ write_bytes m a xs
set-at_position m a xs i b c e read written =
    ap (λ (d : Block). set m i d) (written ∙ ap (λ (d : Block). overwritten d a xs) read)
    ∙ sym (write_bytes-position m a xs i b e)

pub unchanged-missing : (m : List Block) (a : ℕ) (xs : List ℕ) → position (place-spans a (length xs)) m ≡ None
    → m ≡ write_bytes m a xs
unchanged-missing m a xs e =
    sym (write_bytes-none m a xs (sym (is_some-position (place-spans a (length xs)) m) ∙ ap is_some e))

-- one writable block holds the range
pub within-writable : (m : List Block) (a n : ℕ) → (n ≡ 0 → ⊥)
    → within (shapes m) Store a n ≡ list_any (λ b. b.writable && holds (shape_of b) a n) m
within-writable m a n some =
    within-one_block (shapes m) Store a n (omega arith) ∙ list_any-map (λ s. s.writable && holds s a n) shape_of m
