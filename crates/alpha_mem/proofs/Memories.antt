-- What is a memory: no blocks, a memory after a write, and one with a block more.
use Rattle.std.proofs.Common.{◌≡◌, ℕ, ◌+◌, ◌-◌, ◌%◌, ◌^◌, ◌<◌, ◌≤◌, ◌⊎◌, Bool, true, false, cond, List, [], ◌∷◌, ◌++◌}
use Rattle.std.proofs.Common.{length, get_or, replicate, refl, sym, ap, subst, ◌∙◌, inl, inr, ⊎_elim, arith, count_by}
use Rattle.std.specs.List.{list_any}
use Rattle.std.proofs.lemmas.Bool.{cases_Bool, cases_lt, cond-true, cond-false, cond_both, false_from_ne_true, or_from}
use Rattle.std.proofs.lemmas.List.{map-append, length-append, length-replicate, get_or-replicate, get_or_past}
use Rattle.std.proofs.lemmas.List.{get_or_append_left, get_or-append_right}
use Rattle.std.proofs.lemmas.List.Elements.{All-push, All-nil}
use Rattle.std.proofs.lemmas.List.Sums.{sum_by_push}
use Rattle.std.proofs.lemmas.List.Folds.{list_any-append}
use Rattle.alpha_mem.specs.Block.{Block, Shape, shape_of, shapes, holds, block}
use Rattle.alpha_mem.specs.Memory.{byte_at, write_bytes, IsFree, IsLayout, IsMemory}
use Rattle.alpha_mem.proofs.Blocks.{holds-true, list_any-map, count_by-none}
use Rattle.alpha_mem.proofs.Bytes.{bytes-has, byte_at-first, byte_at-rest, shapes-write_bytes}
use Rattle.alpha_mem.proofs.Bytes.{byte_at-write_bytes_outside, byte_at-write_bytes_inside}
use Rattle.alpha_mem.proofs.BlockPlaces.{write_bytes-none}

pub IsMemory-empty : IsMemory []
unfolding byte_at
IsMemory-empty = record {
  layout = record { aligned = All-nil _; below = All-nil _; apart = λ a. omega arith };
  bytes = λ a. omega arith;
}

written_byte : (m : List Block) (a : ℕ) (xs : List ℕ) → IsMemory m
    → list_any (λ s. holds s a (length xs)) (shapes m) ≡ true → ((k : ℕ) → get_or xs k 0 < 256) → (x : ℕ)
    → byte_at (write_bytes m a xs) x < 256
written_byte m a xs memory there small x =
    let below : (n k : ℕ) → n ≡ k → k < 256 → n < 256 = λ n k e h. omega arith in
    ⊎_elim (λ (h : x < a). below _ _ (byte_at-write_bytes_outside m a xs x (inl h)) (memory.bytes x))
    (λ (h : a ≤ x). ⊎_elim (λ (g : x < a + length xs).
    below _ _ (byte_at-write_bytes_inside m a xs x memory.layout.apart there h g) (small (x - a)))
    (λ (g : a + length xs ≤ x). below _ _ (byte_at-write_bytes_outside m a xs x (inr g)) (memory.bytes x))
    (cases_lt x (a + length xs)))
    (cases_lt x a)

-- after a write a memory is still one
pub IsMemory-write_bytes : (m : List Block) (a : ℕ) (xs : List ℕ) → IsMemory m → ((k : ℕ) → get_or xs k 0 < 256)
    → IsMemory (write_bytes m a xs)
IsMemory-write_bytes m a xs memory small =
    ⊎_elim (λ (there : list_any (λ s. holds s a (length xs)) (shapes m) ≡ true). record {
      layout = subst IsLayout (sym (shapes-write_bytes m a xs)) memory.layout;
      bytes = written_byte m a xs memory there small;
    }) (λ (none : list_any (λ s. holds s a (length xs)) (shapes m) ≡ false). subst IsMemory
    (sym (write_bytes-none m a xs (sym (list_any-map (λ s. holds s a (length xs)) shape_of m) ∙ none))) memory)
    (cases_Bool _)

-- a byte of a memory with one block more is a byte of the one or of the other
added_byte : (m : List Block) (b : Block) (x : ℕ)
    → (byte_at (m ++ b ∷ []) x ≡ byte_at m x) ⊎ (byte_at (m ++ b ∷ []) x ≡ byte_at (b ∷ []) x)
added_byte [] b x = inr refl
added_byte (c ∷ m) b x =
    ⊎_elim
    (λ (e : bytes-has x (shape_of c) ≡ true). inl (byte_at-first c (m ++ b ∷ []) x e ∙ sym (byte_at-first c m x e)))
    (λ (e : bytes-has x (shape_of c) ≡ false).
    let skip = byte_at-rest c (m ++ b ∷ []) x e in
    ⊎_elim (λ (h : byte_at (m ++ b ∷ []) x ≡ byte_at m x). inl (skip ∙ (h ∙ sym (byte_at-rest c m x e))))
    (λ (h : byte_at (m ++ b ∷ []) x ≡ byte_at (b ∷ []) x). inr (skip ∙ h)) (added_byte m b x))
    (cases_Bool (bytes-has x (shape_of c)))

lone_byte : (b : Block) (x : ℕ) → ((k : ℕ) → get_or b.bytes k 0 < 256) → byte_at (b ∷ []) x < 256
unfolding byte_at
lone_byte b x small =
    cond_both (bytes-has x (shape_of b)) (get_or b.bytes (x - b.first) 0) 0 (λ z. z < 256) (λ e. small (x - b.first))
    (λ e. omega arith)

zero_extended : (xs : List ℕ) (n : ℕ) → ((k : ℕ) → get_or xs k 0 < 256) → (k : ℕ)
    → get_or (xs ++ replicate n 0) k 0 < 256
zero_extended xs n small k =
    ⊎_elim (λ (h : k < length xs). omega (arith, get_or_append_left xs (replicate n 0) 0 k h, small k))
    (λ (h : length xs ≤ k). ⊎_elim (λ (g : k - length xs < n). omega (
      arith,
      get_or-append_right xs (replicate n 0) (length xs) k 0 refl h,
      get_or-replicate {A = ℕ} n (k - length xs) 0 0 g,
    )) (λ (g : n ≤ k - length xs). omega (
      arith,
      get_or-append_right xs (replicate n 0) (length xs) k 0 refl h,
      get_or_past {X = ℕ} (replicate n 0) (k - length xs) 0 (omega (arith, length-replicate {A = ℕ} n 0)),
    )) (cases_lt (k - length xs) n)) (cases_lt k (length xs))

-- a block at free addresses shares none with the others
apart_push : (ss : List Shape) (s : Shape) → ((x : ℕ) → count_by (bytes-has x) ss ≤ 1) → IsFree ss s.first s.size
    → (x : ℕ) → count_by (bytes-has x) (ss ++ s ∷ []) ≤ 1
apart_push ss s apart free x =
    let pushed = sum_by_push (λ (t : Shape). cond (bytes-has x t) 1 0) ss s in
    ⊎_elim (λ (e : bytes-has x s ≡ true).
    let p = holds-true s x 1 e in
    let none = free x (omega arith) (omega arith) in
    omega (arith, pushed, cond-true {A = ℕ} (bytes-has x s) 1 0 e, count_by-none (bytes-has x) ss none))
    (λ (e : bytes-has x s ≡ false). omega (arith, pushed, cond-false {A = ℕ} (bytes-has x s) 1 0 e, apart x))
    (cases_Bool (bytes-has x s))

IsLayout-push : (ss : List Shape) (s : Shape) → IsLayout ss → s.first % 16 ≡ 0 → s.first + s.size ≤ 2 ^ 30
    → IsFree ss s.first s.size → IsLayout (ss ++ s ∷ [])
IsLayout-push ss s layout start end free = record {
  aligned = All-push (λ (t : Shape). t.first % 16 ≡ 0) ss s layout.aligned start;
  below = All-push (λ (t : Shape). t.first + t.size ≤ 2 ^ 30) ss s layout.below end;
  apart = apart_push ss s layout.apart free;
}

length-block : (first : ℕ) (xs : List ℕ) (zeroed : ℕ) (writable : Bool)
    → (shape_of (block first xs zeroed writable)).size ≡ length xs + zeroed
length-block first xs zeroed writable =
    length-append xs (replicate zeroed 0) ∙ ap (λ n. length xs + n) (length-replicate {A = ℕ} zeroed 0)

-- with a new block at free addresses a memory is still one
pub IsMemory-push : (m : List Block) (first : ℕ) (bytes : List ℕ) (zeroed : ℕ) (writable : Bool) → IsMemory m
    → first % 16 ≡ 0 → first + length bytes + zeroed ≤ 2 ^ 30 → IsFree (shapes m) first (length bytes + zeroed)
    → ((k : ℕ) → get_or bytes k 0 < 256) → IsMemory (m ++ block first bytes zeroed writable ∷ [])
IsMemory-push m first bytes zeroed writable memory start end free small =
    let b = block first bytes zeroed writable in
    let size : length (bytes ++ replicate zeroed 0) ≡ length bytes + zeroed =
    length-append bytes (replicate zeroed 0) ∙ ap (λ n. length bytes + n) (length-replicate {A = ℕ} zeroed 0) in
    let below : (n k : ℕ) → n ≡ k → k < 256 → n < 256 = λ n k e h. omega arith in
    record {
      layout =
          subst IsLayout (sym (map-append shape_of m (b ∷ [])))
          (IsLayout-push (shapes m) (shape_of b) memory.layout start (omega arith)
          (subst (λ n. IsFree (shapes m) first n) (sym size) free));
      bytes =
          λ x. ⊎_elim (λ (h : byte_at (m ++ b ∷ []) x ≡ byte_at m x). below _ _ h (memory.bytes x))
          (λ (h : byte_at (m ++ b ∷ []) x ≡ byte_at (b ∷ []) x).
          below _ _ h (lone_byte b x (zero_extended bytes zeroed small)))
          (added_byte m b x);
    }

-- free addresses that a new block doesn't take stay free
pub IsFree-push : (m : List Block) (first : ℕ) (xs : List ℕ) (zeroed : ℕ) (writable : Bool) (a n : ℕ)
    → IsFree (shapes m) a n → (a + n ≤ first) ⊎ (first + length xs + zeroed ≤ a)
    → IsFree (shapes (m ++ block first xs zeroed writable ∷ [])) a n
IsFree-push m first xs zeroed writable a n free apart x low high =
    let s = shape_of (block first xs zeroed writable) in
    let size : s.size ≡ length xs + zeroed = length-block first xs zeroed writable in
    let away : bytes-has x s ≡ false = false_from_ne_true _ (λ h. let p = holds-true s x 1 h in
    ⊎_elim (λ (below : a + n ≤ first). omega arith) (λ (above : first + length xs + zeroed ≤ a). omega arith) apart) in
    ap (list_any (bytes-has x)) (map-append shape_of m (block first xs zeroed writable ∷ []))
    ∙ (list_any-append (bytes-has x) (shapes m) (s ∷ []) ∙ or_from _ _ (free x low high) (or_from _ _ away refl))
