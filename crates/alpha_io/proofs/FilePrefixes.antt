-- The front of a file that was read so far.
use Rattle.std.specs.Prelude.{⊤}
use Rattle.std.proofs.Common.{◌≡◌, ℕ, ◌+◌, List, [], ◌++◌, length, take, drop, Option, None, Some, IsSomeAnd, sym, ap}
use Rattle.std.proofs.Common.{◌∙◌, arith, length-append, take-add}
use Rattle.alpha_io.specs.Files.{Files, IfTold, IsPiece}

-- of a file that isn't there nothing was read
abbrev pub IsPrefixRead : Option (List ℕ) → List ℕ → Type 0
IsPrefixRead None front = front ≡ []
IsPrefixRead (Some file) front = take (length front) file ≡ front

-- where files are told, these are the first bytes of this one
abbrev pub IsKnownPrefixRead : Files → List ℕ → List ℕ → Type 0
IsKnownPrefixRead None name front = ⊤
IsKnownPrefixRead (Some files) name front = IsPrefixRead (files name) front

IsPrefixRead-more : (o : Option (List ℕ)) (front : List ℕ) (at n : ℕ) (buffer : List ℕ) → at ≡ length front
    → n ≡ length (take n buffer) → IsPrefixRead o front
    → IsSomeAnd o (λ file. IsPiece file at n buffer) → IsPrefixRead o (front ++ take n buffer)
IsPrefixRead-more None front at n buffer here whole before piece = absurd piece
IsPrefixRead-more (Some file) front at n buffer here whole before piece =
    let size : length (front ++ take n buffer) ≡ length front + n =
    omega (arith, length-append front (take n buffer)) in
    let next : take n (drop (length front) file) ≡ take n buffer =
    ap (λ k. take n (drop k file)) (sym here) ∙ sym piece.bytes in
    ap (λ k. take k file) size ∙ take-add (length front) n file
    ∙ ap (λ l. l ++ take n (drop (length front) file)) before ∙ ap (λ l. front ++ l) next

-- the next piece makes the front longer
pub IsKnownPrefixRead-more : (a : Files) (name front : List ℕ) (at n : ℕ) (buffer : List ℕ) → at ≡ length front
    → n ≡ length (take n buffer) → IsKnownPrefixRead a name front
    → IfTold a name (λ file. IsPiece file at n buffer) → IsKnownPrefixRead a name (front ++ take n buffer)
IsKnownPrefixRead-more None name front at n buffer here whole before piece = tt
IsKnownPrefixRead-more (Some files) name front at n buffer here whole before piece =
    IsPrefixRead-more (files name) front at n buffer here whole before piece
