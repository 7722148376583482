-- The bytes of a memory: what a write changes, and what makes two memories equal.
use Rattle.std.proofs.Common.{◌≡◌, ℕ, ◌+◌, ◌-◌, ◌<◌, ◌≤◌, ◌⊎◌, Bool, true, false, List, [], ◌∷◌, ◌++◌, length, get_or}
use Rattle.std.proofs.Common.{drop, refl, sym, ap, subst, ◌∙◌, inl, inr, ⊎_elim, arith, count_by}
use Rattle.std.specs.List.{list_any}
use Rattle.std.proofs.lemmas.Bool.{false≢true, cond-true, cond-false, cond_both, cases_Bool, cases_lt, or_cases}
use Rattle.std.proofs.lemmas.Bool.{or_parts, false_from_ne_true}
use Rattle.std.proofs.lemmas.List.{length-append, length-take, length-drop, ext_get_or, get_or_append_left}
use Rattle.std.proofs.lemmas.List.{get_or-append_right, get_or-take, get_or-drop}
use Rattle.alpha_mem.specs.Block.{Block, Shape, shape_of, shapes, holds, part, overwritten}
use Rattle.alpha_mem.specs.Memory.{bytes_at, byte_at, write_bytes}
use Rattle.alpha_mem.proofs.Blocks.{holds-true, holds-from, all_units, list_any-weaker, count_by-one_rest}
use Rattle.alpha_mem.proofs.Blocks.{count_by-one_first}
use Rattle.alpha_mem.proofs.Blocks.{shape-overwritten, get_or-overwritten_below, get_or-overwritten_above}
use Rattle.alpha_mem.proofs.Blocks.{get_or-overwritten_inside}

-- the address lies in the block
abbrev pub bytes-has : ℕ → Shape → Bool
bytes-has x s = holds s x 1

-- no address lies in two blocks
abbrev pub AreApart : List Shape → Type 0
AreApart ss = (x : ℕ) → count_by (bytes-has x) ss ≤ 1

-- a write leaves each block where it lies
pub shapes-write_bytes : (m : List Block) (a : ℕ) (xs : List ℕ) → shapes (write_bytes m a xs) ≡ shapes m
unfolding write_bytes
shapes-write_bytes [] a xs = refl
shapes-write_bytes (b ∷ m) a xs =
    cond_both (holds (shape_of b) a (length xs)) (overwritten b a xs ∷ m) (b ∷ write_bytes m a xs)
    (λ z. shapes z ≡ shapes (b ∷ m)) (λ e. ap (λ (s : Shape). s ∷ shapes m) (shape-overwritten b a xs e))
    (λ e. ap (λ (ss : List Shape). shape_of b ∷ ss) (shapes-write_bytes m a xs))

-- a byte of the first block, and one of the others
pub byte_at-first : (b : Block) (m : List Block) (x : ℕ) → bytes-has x (shape_of b) ≡ true
    → byte_at (b ∷ m) x ≡ get_or b.bytes (x - b.first) 0
unfolding byte_at
byte_at-first b m x h = cond-true _ _ _ h

pub byte_at-rest : (b : Block) (m : List Block) (x : ℕ) → bytes-has x (shape_of b) ≡ false
    → byte_at (b ∷ m) x ≡ byte_at m x
unfolding byte_at
byte_at-rest b m x h = cond-false _ _ _ h

pub byte_at-none : (m : List Block) (x : ℕ) → list_any (bytes-has x) (shapes m) ≡ false → byte_at m x ≡ 0
unfolding byte_at
byte_at-none [] x h = refl
byte_at-none (b ∷ m) x h =
    let p = or_parts (bytes-has x (shape_of b)) (list_any (bytes-has x) (shapes m)) h in
    byte_at-rest b m x p.0 ∙ byte_at-none m x p.1

-- one byte of a written block
written_first : (b : Block) (m n : List Block) (a : ℕ) (xs : List ℕ) (x : ℕ) → holds (shape_of b) a (length xs) ≡ true
    → (x < a) ⊎ (a + length xs ≤ x) → byte_at m x ≡ byte_at n x → byte_at (overwritten b a xs ∷ m) x ≡ byte_at (b ∷ n) x
written_first b m n a xs x h outside same =
    let unmoved = ap (bytes-has x) (shape-overwritten b a xs h) in
    let in_range = holds-true (shape_of b) a (length xs) h in
    ⊎_elim (λ (e : bytes-has x (shape_of b) ≡ true).
    let p = holds-true (shape_of b) x 1 e in
    byte_at-first (overwritten b a xs) m x (unmoved ∙ e) ∙ (⊎_elim (λ (o : x < a).
    get_or-overwritten_below b.bytes xs (a - b.first) (x - b.first) (omega arith) (omega arith))
    (λ (o : a + length xs ≤ x). get_or-overwritten_above b.bytes xs (a - b.first) (x - b.first) (omega arith)
    (omega arith)) outside ∙ sym (byte_at-first b n x e))) (λ (e : bytes-has x (shape_of b) ≡ false).
    byte_at-rest (overwritten b a xs) m x (unmoved ∙ e) ∙ (same ∙ sym (byte_at-rest b n x e)))
    (cases_Bool (bytes-has x (shape_of b)))

same_first : (b : Block) (m n : List Block) (x : ℕ) → byte_at m x ≡ byte_at n x → byte_at (b ∷ m) x ≡ byte_at (b ∷ n) x
same_first b m n x same =
    ⊎_elim (λ (e : bytes-has x (shape_of b) ≡ true). byte_at-first b m x e ∙ sym (byte_at-first b n x e))
    (λ (e : bytes-has x (shape_of b) ≡ false). byte_at-rest b m x e ∙ (same ∙ sym (byte_at-rest b n x e)))
    (cases_Bool (bytes-has x (shape_of b)))

-- a byte outside the written range stays
pub byte_at-write_bytes_outside : (m : List Block) (a : ℕ) (xs : List ℕ) (x : ℕ) → (x < a) ⊎ (a + length xs ≤ x)
    → byte_at (write_bytes m a xs) x ≡ byte_at m x
unfolding write_bytes
byte_at-write_bytes_outside [] a xs x outside = refl
byte_at-write_bytes_outside (b ∷ m) a xs x outside =
    cond_both (holds (shape_of b) a (length xs)) (overwritten b a xs ∷ m) (b ∷ write_bytes m a xs)
    (λ z. byte_at z x ≡ byte_at (b ∷ m) x) (λ e. written_first b m m a xs x e outside refl)
    (λ e. same_first b (write_bytes m a xs) m x (byte_at-write_bytes_outside m a xs x outside))

-- a block that holds a range has each address of it
pub bytes-has-from_holds : (ss : List Shape) (a n x : ℕ) → a ≤ x → x < a + n → list_any (λ s. holds s a n) ss ≡ true
    → list_any (bytes-has x) ss ≡ true
bytes-has-from_holds ss a n x low high h =
    list_any-weaker (λ s. Unit {0}) (λ s. holds s a n) (bytes-has x) ss (all_units ss)
    (λ s u e. let p = holds-true s a n e in holds-from s x 1 (omega arith) (omega arith)) h

-- a byte inside the written range is the written one
pub byte_at-write_bytes_inside : (m : List Block) (a : ℕ) (xs : List ℕ) (x : ℕ) → AreApart (shapes m)
    → list_any (λ s. holds s a (length xs)) (shapes m) ≡ true → a ≤ x → x < a + length xs
    → byte_at (write_bytes m a xs) x ≡ get_or xs (x - a) 0
unfolding write_bytes
byte_at-write_bytes_inside [] a xs x apart there low high = absurd (false≢true there)
byte_at-write_bytes_inside (b ∷ m) a xs x apart there low high =
    cond_both (holds (shape_of b) a (length xs)) (overwritten b a xs ∷ m) (b ∷ write_bytes m a xs)
    (λ z. byte_at z x ≡ get_or xs (x - a) 0)
    (λ e. let p = holds-true (shape_of b) a (length xs) e in
    let here = holds-from (shape_of b) x 1 (omega arith) (omega arith) in
    let i : x - b.first - (a - b.first) ≡ x - a = omega arith in
    byte_at-first (overwritten b a xs) m x (ap (bytes-has x) (shape-overwritten b a xs e) ∙ here)
    ∙ (get_or-overwritten_inside b.bytes xs (a - b.first) (x - b.first) (omega arith) (omega arith) (omega arith)
    ∙ ap (λ k. get_or xs k 0) i))
    (λ e. let rest : list_any (λ s. holds s a (length xs)) (shapes m) ≡ true =
    ⊎_elim (λ (t : holds (shape_of b) a (length xs) ≡ true). absurd (false≢true (sym e ∙ t)))
    (λ (t : list_any (λ s. holds s a (length xs)) (shapes m) ≡ true). t) (or_cases _ _ there) in
    let not_here : bytes-has x (shape_of b) ≡ false =
    false_from_ne_true _
    (λ here. false≢true (sym (count_by-one_first (bytes-has x) (shape_of b) (shapes m) (apart x) here)
    ∙ bytes-has-from_holds (shapes m) a (length xs) x low high rest)) in
    byte_at-rest b (write_bytes m a xs) x not_here
    ∙ byte_at-write_bytes_inside m a xs x
    (λ y. count_by-one_rest (bytes-has y) (shape_of b) (shapes m) (apart y)) rest low high)

-- equal shapes and equal bytes make equal blocks
same_block : (b c : Block) → shape_of b ≡ shape_of c → b.bytes ≡ c.bytes → b ≡ c
same_block b c e p = λ i.
    record { first = (ap (λ (s : Shape). s.first) e) i; bytes = p i; writable = (ap (λ (s : Shape). s.writable) e) i }

first_bytes : (b c : Block) (m n : List Block) → shape_of b ≡ shape_of c
    → ((x : ℕ) → byte_at (b ∷ m) x ≡ byte_at (c ∷ n) x) → b.bytes ≡ c.bytes
first_bytes b c m n e same =
    let firsts : b.first ≡ c.first = ap (λ (s : Shape). s.first) e in
    let sizes : length b.bytes ≡ length c.bytes = ap (λ (s : Shape). s.size) e in
    ext_get_or 0 b.bytes c.bytes sizes (λ i within.
    let here = holds-from (shape_of b) (b.first + i) 1 (omega arith) (omega arith) in
    let back : b.first + i - b.first ≡ i = omega arith in
    let back' : b.first + i - c.first ≡ i = omega arith in
    ap (λ k. get_or b.bytes k 0) (sym back) ∙ (sym (byte_at-first b m (b.first + i) here) ∙ (same (b.first + i)
    ∙ (byte_at-first c n (b.first + i) (ap (bytes-has (b.first + i)) (sym e) ∙ here)
    ∙ ap (λ k. get_or c.bytes k 0) back'))))

rest_bytes : (b c : Block) (m n : List Block) → shape_of b ≡ shape_of c → shapes m ≡ shapes n
    → AreApart (shapes (b ∷ m)) → ((x : ℕ) → byte_at (b ∷ m) x ≡ byte_at (c ∷ n) x) → (x : ℕ)
    → byte_at m x ≡ byte_at n x
rest_bytes b c m n e es apart same x =
    ⊎_elim (λ (h : bytes-has x (shape_of b) ≡ true).
    let none = count_by-one_first (bytes-has x) (shape_of b) (shapes m) (apart x) h in
    byte_at-none m x none ∙ sym (byte_at-none n x (ap (λ ss. list_any (bytes-has x) ss) (sym es) ∙ none)))
    (λ (h : bytes-has x (shape_of b) ≡ false). sym (byte_at-rest b m x h)
    ∙ (same x ∙ byte_at-rest c n x (ap (bytes-has x) (sym e) ∙ h)))
    (cases_Bool (bytes-has x (shape_of b)))

-- memories of equal shapes and equal bytes are equal
pub memory-extensional : (m n : List Block) → shapes m ≡ shapes n → AreApart (shapes m)
    → ((x : ℕ) → byte_at m x ≡ byte_at n x)
    → m ≡ n
memory-extensional [] [] e apart same = refl
memory-extensional [] (c ∷ n) e apart same = cc
memory-extensional (b ∷ m) [] e apart same = cc
memory-extensional (b ∷ m) (c ∷ n) e apart same =
    let head : shape_of b ≡ shape_of c = cc in
    let tail : shapes m ≡ shapes n = cc in
    let first = same_block b c head (first_bytes b c m n head same) in
    let rest = memory-extensional m n tail (λ x. count_by-one_rest (bytes-has x) (shape_of b) (shapes m) (apart x))
    (rest_bytes b c m n head tail apart same) in
    ap (λ (z : Block). z ∷ m) first ∙ ap (λ (zs : List Block). c ∷ zs) rest

-- two writes, one after the other, are one write
pub write_bytes-write_bytes : (m : List Block) (a : ℕ) (xs ys : List ℕ)
    → AreApart (shapes m) → list_any (λ s. holds s a (length (xs ++ ys))) (shapes m) ≡ true
    → write_bytes (write_bytes m a xs) (a + length xs) ys ≡ write_bytes m a (xs ++ ys)
write_bytes-write_bytes m a xs ys apart there =
    let once = write_bytes m a xs in
    let twice = write_bytes once (a + length xs) ys in
    let whole = write_bytes m a (xs ++ ys) in
    let sized : length (xs ++ ys) ≡ length xs + length ys = length-append xs ys in
    let same : shapes once ≡ shapes m = shapes-write_bytes m a xs in
    let part_holds : (k n : ℕ) → a ≤ k → k + n ≤ a + length (xs ++ ys) → list_any (λ s. holds s k n) (shapes m) ≡ true =
    λ k n low high. list_any-weaker (λ s. Unit {0}) (λ s. holds s a (length (xs ++ ys)))
    (λ s. holds s k n) (shapes m) (all_units (shapes m))
    (λ s u e. let p = holds-true s a (length (xs ++ ys)) e in holds-from s k n (omega arith) (omega arith)) there in
    let below : (x : ℕ) → x < a → byte_at twice x ≡ byte_at whole x =
    λ x h. byte_at-write_bytes_outside once (a + length xs) ys x (inl (omega arith))
    ∙ (byte_at-write_bytes_outside m a xs x (inl h) ∙ sym (byte_at-write_bytes_outside m a (xs ++ ys) x (inl h))) in
    let above : (x : ℕ) → a + length xs + length ys ≤ x → byte_at twice x ≡ byte_at whole x =
    λ x h. byte_at-write_bytes_outside once (a + length xs) ys x (inr h)
    ∙ (byte_at-write_bytes_outside m a xs x (inr (omega arith))
    ∙ sym (byte_at-write_bytes_outside m a (xs ++ ys) x (inr (omega arith)))) in
    let in_xs : (x : ℕ) → a ≤ x → x < a + length xs → byte_at twice x ≡ byte_at whole x =
    λ x low high. byte_at-write_bytes_outside once (a + length xs) ys x (inl high)
    ∙ (byte_at-write_bytes_inside m a xs x apart (part_holds a (length xs) (omega arith) (omega arith)) low high
    ∙ (sym (get_or_append_left xs ys 0 (x - a) (omega arith))
    ∙ sym (byte_at-write_bytes_inside m a (xs ++ ys) x apart there low (omega arith)))) in
    let in_ys : (x : ℕ) → a + length xs ≤ x → x < a + length xs + length ys → byte_at twice x ≡ byte_at whole x =
    λ x low high.
    let turned : x - (a + length xs) ≡ x - a - length xs = omega arith in
    byte_at-write_bytes_inside once (a + length xs) ys x (subst AreApart (sym same) apart)
    (ap (λ ss. list_any (λ s. holds s (a + length xs) (length ys)) ss) same
    ∙ part_holds (a + length xs) (length ys) (omega arith) (omega arith)) low high
    ∙ (ap (λ k. get_or ys k 0) turned ∙ (sym (get_or-append_right xs ys (length xs) (x - a) 0 refl (omega arith))
    ∙ sym (byte_at-write_bytes_inside m a (xs ++ ys) x apart there (omega arith) (omega arith)))) in
    memory-extensional twice whole
    (shapes-write_bytes once (a + length xs) ys ∙ (same ∙ sym (shapes-write_bytes m a (xs ++ ys))))
    (subst AreApart (sym (shapes-write_bytes once (a + length xs) ys ∙ same)) apart) (λ x.
    ⊎_elim (λ (h : x < a). below x h)
    (λ (h : a ≤ x). ⊎_elim (λ (g : x < a + length xs). in_xs x h g)
    (λ (g : a + length xs ≤ x). ⊎_elim (λ (f : x < a + length xs + length ys). in_ys x g f)
    (λ (f : a + length xs + length ys ≤ x). above x f) (cases_lt x (a + length xs + length ys)))
    (cases_lt x (a + length xs)))
    (cases_lt x a))

-- the bytes of a range, one at a time
pub get_or-bytes_at : (m : List Block) (a n k : ℕ) → AreApart (shapes m) → list_any (λ s. holds s a n) (shapes m) ≡ true
    → k < n → get_or (bytes_at m a n) k 0 ≡ byte_at m (a + k)
unfolding bytes_at
get_or-bytes_at [] a n k apart there less = absurd (false≢true there)
get_or-bytes_at (b ∷ m) a n k apart there less =
    cond_both (holds (shape_of b) a n) (part b a n) (bytes_at m a n) (λ z. get_or z k 0 ≡ byte_at (b ∷ m) (a + k))
    (λ e. let p = holds-true (shape_of b) a n e in
    let here = holds-from (shape_of b) (a + k) 1 (omega arith) (omega arith) in
    let i : a - b.first + k ≡ a + k - b.first = omega arith in
    get_or-take n (drop (a - b.first) b.bytes) k 0 less
    ∙ (get_or-drop (a - b.first) b.bytes k 0 ∙ (ap (λ j. get_or b.bytes j 0) i ∙ sym (byte_at-first b m (a + k) here))))
    (λ e. let rest : list_any (λ s. holds s a n) (shapes m) ≡ true =
    ⊎_elim (λ (t : holds (shape_of b) a n ≡ true). absurd (false≢true (sym e ∙ t)))
    (λ (t : list_any (λ s. holds s a n) (shapes m) ≡ true). t) (or_cases _ _ there) in
    let not_here : bytes-has (a + k) (shape_of b) ≡ false = false_from_ne_true _
    (λ here. false≢true (sym (count_by-one_first (bytes-has (a + k)) (shape_of b) (shapes m) (apart (a + k)) here)
    ∙ bytes-has-from_holds (shapes m) a n (a + k) (omega arith) (omega arith) rest)) in
    get_or-bytes_at m a n k (λ y. count_by-one_rest (bytes-has y) (shape_of b) (shapes m) (apart y)) rest less
    ∙ sym (byte_at-rest b m (a + k) not_here))

pub length-bytes_at : (m : List Block) (a n : ℕ) → list_any (λ s. holds s a n) (shapes m) ≡ true
    → length (bytes_at m a n) ≡ n
unfolding bytes_at
length-bytes_at [] a n there = absurd (false≢true there)
length-bytes_at (b ∷ m) a n there =
    cond_both (holds (shape_of b) a n) (part b a n) (bytes_at m a n) (λ z. length z ≡ n)
    (λ e. let p = holds-true (shape_of b) a n e in
    omega (arith, length-take n (drop (a - b.first) b.bytes), length-drop (a - b.first) b.bytes))
    (λ e. length-bytes_at m a n
    (⊎_elim (λ (t : holds (shape_of b) a n ≡ true). absurd (false≢true (sym e ∙ t)))
    (λ (t : list_any (λ s. holds s a n) (shapes m) ≡ true). t) (or_cases _ _ there)))

pub length-bytes_at_le : (m : List Block) (a n : ℕ) → length (bytes_at m a n) ≤ n
unfolding bytes_at
length-bytes_at_le [] a n = omega arith
length-bytes_at_le (b ∷ m) a n =
    cond_both (holds (shape_of b) a n) (part b a n) (bytes_at m a n) (λ z. length z ≤ n)
    (λ e. omega (arith, length-take n (drop (a - b.first) b.bytes))) (λ e. length-bytes_at_le m a n)

-- a write of no bytes changes nothing
pub write_bytes-nothing : (m : List Block) (a : ℕ) → AreApart (shapes m) → write_bytes m a [] ≡ m
write_bytes-nothing m a apart =
    let unmoved = shapes-write_bytes m a [] in
    memory-extensional (write_bytes m a []) m unmoved (subst AreApart (sym unmoved) apart)
    (λ x. byte_at-write_bytes_outside m a [] x
    (⊎_elim (λ (h : x < a). inl h) (λ (h : a ≤ x). inr (omega arith)) (cases_lt x a)))
