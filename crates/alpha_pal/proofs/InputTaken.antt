-- Input that was taken into memory, piece by piece.
use Rattle.std.proofs.Common.{◌≡◌, ◌≢◌, ℕ, ◌+◌, ◌<◌, ◌≤◌, List, [], ◌∷◌, ◌++◌, length, Option, Some, None, Result, Ok}
use Rattle.std.proofs.Common.{Err, OnErr, IsTrue, refl, sym, ap, subst, ◌∙◌, inl, inr, ⊎_elim, arith, length-append}
use Rattle.std.proofs.Common.{append_assoc, append-nil}
use Rattle.std.proofs.lemmas.List.Elements.{All-nil, All-cons, All-append}
use Rattle.std.proofs.lemmas.Grind.{flat_map-append}
use Rattle.std.proofs.lemmas.Bool.{cases_lt}
use Rattle.std.proofs.KnownBytes.{Consumes-nil, Consumes-trans}
use Rattle.std.specs.Io.KnownBytes.{Consumes}
use Rattle.alpha_io.specs.History.{Reply, Took, bytes_given, GaveSome}
use Rattle.alpha_io.specs.Supply.{Supply}
use Rattle.alpha_io.proofs.FilePieces.{piece-not_nil}
use Rattle.alpha_mem.specs.Intent.{Load, Store}
use Rattle.alpha_mem.specs.Block.{Shape, Block, shapes, within}
use Rattle.alpha_mem.specs.Memory.{bytes_at, write_bytes, IsLayout}
use Rattle.alpha_mem.proofs.LawLemmas.{shapes-write_bytes, memory-extensional, byte_at-write_bytes_outside}
use Rattle.alpha_mem.proofs.LawLemmas.{write_bytes-write_bytes, bytes_at-write_bytes, within-part, within-readable}
use Rattle.alpha_pal.specs.Taken.{HasTaken, TakesPiece, TakesPieces, ReadsInto, FailsOnce, TakesLess}

-- a write of no bytes changes nothing
pub write_nothing : (m : List Block) (a : ℕ) → IsLayout (shapes m) → write_bytes m a [] ≡ m
write_nothing m a layout =
    let lies = shapes-write_bytes m a [] in
    memory-extensional (write_bytes m a []) m lies (subst IsLayout (sym lies) layout)
    (λ x. byte_at-write_bytes_outside m a [] x
    (⊎_elim (λ (p : x < a). inl p) (λ (p : a ≤ x). inr (omega arith)) (cases_lt x a)))

pub HasTaken-none : (m : List Block) (a : ℕ) (left : Option (List ℕ)) → IsLayout (shapes m) → HasTaken m m a 0 left left
HasTaken-none m a left layout =
    record { taken = []; count = refl; there = sym (write_nothing m a layout); consumed = Consumes-nil left }

-- a piece more
pub HasTaken-more : (m m1 m2 : List Block) (a n k t size : ℕ) (l0 l1 l2 : Option (List ℕ)) → IsLayout (shapes m)
    → IsTrue (within (shapes m) Store a size) → t ≡ n + k → t ≤ size → HasTaken m m1 a n l0 l1
    → HasTaken m1 m2 (a + n) k l1 l2 → HasTaken m m2 a t l0 l2
HasTaken-more m m1 m2 a n k t size l0 l1 l2 layout range total fits first more =
    let sized = length-append first.taken more.taken in
    let there : IsTrue (within (shapes m) Store a (length (first.taken ++ more.taken))) = within-part (shapes m) Store a
    size a (length (first.taken ++ more.taken)) range (omega arith) (omega (arith, first.count, more.count)) in
    record {
      taken = first.taken ++ more.taken;
      count = omega (arith, first.count, more.count);
      there =
          more.there
          ∙ (ap (λ x. write_bytes x (a + n) more.taken) first.there
          ∙ (ap (λ x. write_bytes (write_bytes m a first.taken) (a + x) more.taken) first.count
          ∙ write_bytes-write_bytes m a first.taken more.taken layout
          (within-readable (shapes m) a (length (first.taken ++ more.taken)) there)));
      consumed = Consumes-trans l0 l1 l2 first.taken more.taken first.consumed more.consumed;
    }

-- ---- by the calls of the source

pub TakesPieces-none : (m : List Block) (a : ℕ) (s : Supply) → IsLayout (shapes m) → TakesPieces m m a 0 s s
unfolding HasTaken-none
TakesPieces-none m a s layout = record {
  had = HasTaken-none m a s.left layout;
  takes = [];
  some = All-nil GaveSome;
  gave_taken = refl;
  calls = sym (append-nil s.replies);
}

-- a piece of some bytes more
pub TakesPieces-more : (m m1 m2 : List Block) (a n k t size : ℕ) (s0 s1 s2 : Supply) → IsLayout (shapes m)
    → IsTrue (within (shapes m) Store a size) → t ≡ n + k → t ≤ size → k ≢ 0
    → TakesPieces m m1 a n s0 s1 → TakesPiece m1 m2 (a + n) k s1 s2 → TakesPieces m m2 a t s0 s2
unfolding HasTaken-more
TakesPieces-more m m1 m2 a n k t size s0 s1 s2 layout range total fits some first piece =
    let xs = first.had.taken in
    let ys = piece.had.taken in
    let call = Took piece.asked (Some ys) in
    record {
      had = HasTaken-more m m1 m2 a n k t size s0.left s1.left s2.left layout range total fits first.had piece.had;
      takes = first.takes ++ call ∷ [];
      some = All-append GaveSome first.takes (call ∷ []) first.some
          (All-cons GaveSome call [] (piece-not_nil k ys piece.had.count some) (All-nil GaveSome));
      gave_taken = flat_map-append bytes_given first.takes (call ∷ [])
          ∙ (ap (λ (l : List ℕ). l ++ (ys ++ [])) first.gave_taken ∙ ap (λ (l : List ℕ). xs ++ l) (append-nil ys));
      calls = piece.call
          ∙ (ap (λ (l : List Reply). l ++ call ∷ []) first.calls ∙ append_assoc s0.replies first.takes (call ∷ []));
    }

-- as many bytes as were asked for
pub ReadsInto-full : (m m' : List Block) (a n size : ℕ) (old new : Supply) → n ≡ size → TakesPieces m m' a n old new
    → ReadsInto m m' a n size old new
ReadsInto-full m m' a n size old new full p = record {
  had = p.had;
  calls = record { takes = p.takes; some = p.some; whole = p.gave_taken; ends = inl (sym p.had.count ∙ full, p.calls) };
}

no_bytes : (xs : List ℕ) → 0 ≡ length xs → xs ≡ []
no_bytes [] e = refl
no_bytes (x ∷ xs) e = absurd (omega (arith, e))

-- fewer, behind which a call gave none
pub ReadsInto-ended : (m m1 m2 : List Block) (a n k size : ℕ) (s0 s1 s2 : Supply) → IsLayout (shapes m)
    → IsTrue (within (shapes m) Store a size) → n < size → k ≡ 0
    → TakesPieces m m1 a n s0 s1 → TakesPiece m1 m2 (a + n) k s1 s2 → ReadsInto m m2 a n size s0 s2
unfolding HasTaken-more
ReadsInto-ended m m1 m2 a n k size s0 s1 s2 layout range less zero first piece =
    let xs = first.had.taken in
    let ys = piece.had.taken in
    let none : ys ≡ [] = no_bytes ys (sym zero ∙ piece.had.count) in
    let same : xs ++ ys ≡ xs = ap (λ (l : List ℕ). xs ++ l) none ∙ append-nil xs in
    let size_is : length (xs ++ ys) ≡ n = ap (λ (l : List ℕ). length l) same ∙ sym first.had.count in
    record {
      had =
          HasTaken-more m m1 m2 a n k n size s0.left s1.left s2.left layout range (omega arith)
          (omega arith) first.had piece.had;
      calls = record {
        takes = first.takes;
        some = first.some;
        whole = first.gave_taken ∙ sym same;
        ends = inr (
          omega (arith, size_is),
          piece.asked,
          piece.call
              ∙ (ap (λ (l : List Reply). l ++ Took piece.asked (Some ys) ∷ []) first.calls
              ∙ ap (λ (l : List ℕ). (s0.replies ++ first.takes) ++ Took piece.asked (Some l) ∷ []) none),
        );
      };
    }

-- what holds where a result is an error
pub OnErr-from_true : {T E : Type 0} (P : Type 0) (r : Result T E) → P → OnErr r P
OnErr-from_true P (Ok v) h = tt
OnErr-from_true P (Err e) h = h

-- fewer, behind which a call failed
pub TakesLess-failed : (m m1 m2 : List Block) (a n size : ℕ) (s0 s1 s2 : Supply) → n < size → m2 ≡ m1
    → TakesPieces m m1 a n s0 s1 → FailsOnce s1 s2 → TakesLess m m2 a size s0 s2
TakesLess-failed m m1 m2 a n size s0 s1 s2 less stays first fails =
    let xs = first.had.taken in
    record {
      done = n;
      less = less;
      first = record {
        taken = xs;
        count = first.had.count;
        there = stays ∙ first.had.there;
        consumed =
            subst (λ (l : List ℕ). Consumes s0.left s2.left l) (append-nil xs)
            (Consumes-trans s0.left s1.left s2.left xs [] first.had.consumed fails.left);
      };
      calls = record {
        takes = first.takes;
        some = first.some;
        whole = first.gave_taken;
        asked = fails.asked;
        fails = fails.call ∙ ap (λ (l : List Reply). l ++ Took fails.asked None ∷ []) first.calls;
      };
    }

-- these bytes stand at an address, where they may be read
abbrev pub StandsAt : List Block → ℕ → ℕ → List ℕ → Type 0
StandsAt m a n bytes = IsTrue (within (shapes m) Load a n) × (bytes ≡ bytes_at m a n)

-- bytes that were taken to a range stand in memory behind it
pub StandsAt-write_bytes : (m : List Block) (a size : ℕ) (taken : List ℕ) → IsLayout (shapes m)
    → IsTrue (within (shapes m) Store a size) → length taken ≤ size
    → StandsAt (write_bytes m a taken) a (length taken) taken
StandsAt-write_bytes m a size taken layout range fits =
    let n = length taken in
    let readable : IsTrue (within (shapes m) Load a n) =
    within-readable (shapes m) a n (within-part (shapes m) Store a size a n range (omega arith) (omega arith)) in (
      subst (λ (ss : List Shape). IsTrue (within ss Load a n)) (sym (shapes-write_bytes m a taken)) readable,
      sym (bytes_at-write_bytes m a taken layout readable),
    )

-- and so do those of a read
pub StandsAt-HasTaken : (m m' : List Block) (a n size : ℕ) (left left' : Option (List ℕ)) → IsLayout (shapes m)
    → IsTrue (within (shapes m) Store a size) → n ≤ size → (h : HasTaken m m' a n left left') → StandsAt m' a n h.taken
StandsAt-HasTaken m m' a n size left left' layout range fits h =
    let there = StandsAt-write_bytes m a size h.taken layout range (omega (arith, h.count)) in
    subst (λ (k : ℕ). StandsAt m' a k h.taken) (sym h.count)
    (subst (λ (x : List Block). StandsAt x a (length h.taken) h.taken) (sym h.there) there)
