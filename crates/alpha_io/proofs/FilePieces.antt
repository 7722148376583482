-- A file that was read up to some place.
use Rattle.std.proofs.Common.{◌≡◌, ◌≢◌, All, ℕ, ◌+◌, List, [], ◌∷◌, ◌++◌, length, drop, None, Some, refl, sym, ap, ◌∙◌}
use Rattle.std.proofs.Common.{subst, append_assoc, append-nil, length-append, inl, inr, arith}
use Rattle.std.specs.List.{concat}
use Rattle.std.proofs.lemmas.List.{append_cancel_left}
use Rattle.std.proofs.lemmas.List.Elements.{All-nil, All-cons, All-head, All-tail, All-append}
use Rattle.std.proofs.lemmas.List.Folds.{concat-append}
use Rattle.alpha_io.specs.History.{Reply, Piece, pieces_from, IsReadWhole, IsReadTo, IsReadInPart}

abbrev IsSome : List ℕ → Type 0
IsSome piece = piece ≢ []

pub pieces_from-more : (name : List ℕ) (at : ℕ) (pieces : List (List ℕ)) (p : List ℕ)
    → pieces_from name at (pieces ++ p ∷ [])
    ≡ pieces_from name at pieces ++ Piece name (at + length (concat pieces)) (Some p) ∷ []
pieces_from-more name at [] p = ap (λ n. Piece name n (Some p) ∷ []) (omega arith)
pieces_from-more name at (q ∷ qs) p =
    let next : at + length q + length (concat qs) ≡ at + length (q ++ concat qs) =
    omega (arith, length-append q (concat qs)) in
    ap (λ xs. Piece name at (Some q) ∷ xs) (pieces_from-more name (at + length q) qs p
    ∙ ap (λ n. pieces_from name (at + length q) qs ++ Piece name n (Some p) ∷ []) next)

pub IsReadTo-start : (old : List Reply) (name : List ℕ) → IsReadTo old old name []
IsReadTo-start old name = record { pieces = []; some = All-nil IsSome; whole = refl; calls = sym (append-nil old) }

pub IsReadTo-more : (old new after : List Reply) (name bytes more p : List ℕ) → IsReadTo old new name bytes → p ≢ []
    → after ≡ new ++ Piece name (length bytes) (Some p) ∷ [] → more ≡ bytes ++ p → IsReadTo old after name more
IsReadTo-more old new after name bytes more p so some is then =
    let place : length bytes ≡ 0 + length (concat so.pieces) = omega (arith, ap (λ (l : List ℕ). length l) so.whole) in
    record {
      pieces = so.pieces ++ p ∷ [];
      some = All-append IsSome so.pieces (p ∷ []) so.some (All-cons IsSome p [] some (All-nil IsSome));
      whole =
          concat-append so.pieces (p ∷ []) ∙ ap (λ l. l ++ (p ++ [])) so.whole
          ∙ ap (λ l. bytes ++ l) (append-nil p) ∙ sym
          then;
      calls = is ∙ ap (λ l. l ++ Piece name (length bytes) (Some p) ∷ []) so.calls
          ∙ append_assoc old (pieces_from name 0 so.pieces) (Piece name (length bytes) (Some p) ∷ [])
          ∙ ap (λ l. old ++ l) (ap (λ n. pieces_from name 0 so.pieces ++ Piece name n (Some p) ∷ []) place
          ∙ sym (pieces_from-more name 0 so.pieces p));
    }

-- a piece of some bytes isn't empty
pub piece-not_nil : (n : ℕ) (piece : List ℕ) → n ≡ length piece → n ≢ 0 → piece ≢ []
piece-not_nil n piece size some = λ none. some (size ∙ ap (λ (l : List ℕ). length l) none)

pub IsReadTo-whole : (old new after : List Reply) (name bytes : List ℕ) → IsReadTo old new name bytes
    → after ≡ new ++ Piece name (length bytes) (Some []) ∷ [] → IsReadWhole old after name bytes
IsReadTo-whole old new after name bytes so is = record {
  pieces = so.pieces;
  some = so.some;
  whole = so.whole;
  calls = is ∙ ap (λ l. l ++ Piece name (length bytes) (Some []) ∷ []) so.calls;
}

-- ---- how a file was read says what it holds

-- the bytes of the first of these pieces
abbrev first_bytes : List Reply → List ℕ
first_bytes (Piece name at (Some bytes) ∷ replies) = bytes
first_bytes replies = []

-- 1 where the first of these pieces was given
abbrev first_given : List Reply → ℕ
first_given (Piece name at (Some bytes) ∷ replies) = 1
first_given replies = 0

-- the reply that says where a file ends
abbrev end_of_file : List ℕ → ℕ → List Reply
end_of_file name at = Piece name at (Some []) ∷ []

-- behind the same first piece, the rest is the same
rest_from : (name : List ℕ) (at : ℕ) (p q : List ℕ) (xs : List Reply) (qs : List (List ℕ)) (ys : List Reply)
    → Piece name at (Some p) ∷ xs ≡ (Piece name at (Some q) ∷ pieces_from name (at + length q) qs) ++ ys
    → xs ≡ pieces_from name (at + length p) qs ++ ys
rest_from name at p q xs qs ys same =
    subst (λ (l : List ℕ). xs ≡ pieces_from name (at + length l) qs ++ ys) (sym (ap first_bytes same))
    (ap (λ (l : List Reply). drop 1 l) same)

-- pieces that all have bytes don't end a file, whatever would come behind
pieces-not_ended : (name : List ℕ) (at n : ℕ) (ps qs : List (List ℕ)) (ys : List Reply) → All IsSome ps
    → pieces_from name at ps ≡ pieces_from name at qs ++ (end_of_file name n ++ ys) → ⊥
pieces-not_ended name at n [] [] ys some same = omega (arith, ap (λ (l : List Reply). length l) same)
pieces-not_ended name at n [] (q ∷ qs) ys some same = omega (arith, ap first_given same)
pieces-not_ended name at n (p ∷ ps) [] ys some same = All-head IsSome p ps some (ap first_bytes same)
pieces-not_ended name at n (p ∷ ps) (q ∷ qs) ys some same =
    pieces-not_ended name (at + length p) n ps qs ys (All-tail IsSome p ps some) (rest_from name at p q _ qs _ same)

-- nor do pieces of which the last wasn't given
pieces_from-not_given : (name : List ℕ) (at m n : ℕ) (ps qs : List (List ℕ)) (ys : List Reply) → All IsSome ps
    → pieces_from name at ps ++ Piece name m None ∷ [] ≡ pieces_from name at qs ++ (end_of_file name n ++ ys) → ⊥
pieces_from-not_given name at m n [] [] ys some same = omega (arith, ap first_given same)
pieces_from-not_given name at m n [] (q ∷ qs) ys some same = omega (arith, ap first_given same)
pieces_from-not_given name at m n (p ∷ ps) [] ys some same = All-head IsSome p ps some (ap first_bytes same)
pieces_from-not_given name at m n (p ∷ ps) (q ∷ qs) ys some same =
    pieces_from-not_given name (at + length p) m n ps qs ys (All-tail IsSome p ps some)
    (rest_from name at p q _ qs _ same)

-- files that the same pieces end are the same
same_pieces : (name : List ℕ) (at m n : ℕ) (ps qs : List (List ℕ)) (xs ys : List Reply) → All IsSome ps
    → All IsSome qs
    → pieces_from name at ps ++ (end_of_file name m ++ xs) ≡ pieces_from name at qs ++ (end_of_file name n ++ ys)
    → (ps ≡ qs) × (xs ≡ ys)
same_pieces name at m n [] [] xs ys some more same = (refl, ap (λ (l : List Reply). drop 1 l) same)
same_pieces name at m n [] (q ∷ qs) xs ys some more same =
    absurd (All-head IsSome q qs more (sym (ap first_bytes same)))
same_pieces name at m n (p ∷ ps) [] xs ys some more same = absurd (All-head IsSome p ps some (ap first_bytes same))
same_pieces name at m n (p ∷ ps) (q ∷ qs) xs ys some more same =
    let rest =
    same_pieces name (at + length p) m n ps qs xs ys (All-tail IsSome p ps some) (All-tail IsSome q qs more)
    (rest_from name at p q _ qs _ same) in (
      ap (λ l. p ∷ l) rest.0 ∙ ap (λ l. l ∷ qs) (ap first_bytes same),
      rest.1,
    )

-- the calls behind those before
from_end : {old new : List Reply} {name file : List ℕ} → (whole : IsReadWhole old new name file)
    → new ≡ old ++ (pieces_from name 0 whole.pieces ++ end_of_file name (length file))
from_end {old} {new} {name} {file} whole =
    whole.calls ∙ append_assoc old (pieces_from name 0 whole.pieces) (end_of_file name (length file))

-- and those behind them
from_rest : {old new : List Reply} {name file : List ℕ} → (whole : IsReadWhole old new name file) → (ys : List Reply)
    → new ++ ys ≡ old ++ (pieces_from name 0 whole.pieces ++ (end_of_file name (length file) ++ ys))
from_rest {old} {new} {name} {file} whole ys =
    ap (λ l. l ++ ys) (from_end whole)
    ∙ append_assoc old (pieces_from name 0 whole.pieces ++ end_of_file name (length file)) ys
    ∙ ap (λ l. old ++ l) (append_assoc (pieces_from name 0 whole.pieces) (end_of_file name (length file)) ys)

-- What was read whole from one moment on is one file, and read at the same moment, whatever was asked behind it.
pub one_read : (old first second : List Reply) (name file other : List ℕ) (xs ys : List Reply)
    → IsReadWhole old first name file → IsReadWhole old second name other → first ++ xs ≡ second ++ ys
    → (file ≡ other) × ((first ≡ second) × (xs ≡ ys))
one_read old first second name file other xs ys read again same =
    let (pieces, rest) =
    same_pieces name 0 (length file) (length other) read.pieces again.pieces xs ys read.some again.some
    (append_cancel_left old _ _ (sym (from_rest read xs) ∙ (same ∙ from_rest again ys))) in
    let one : file ≡ other = sym read.whole ∙ (ap concat pieces ∙ again.whole) in
    let moment : first ≡ second =
    from_end read ∙ (ap (λ l. old ++ (pieces_from name 0 l ++ end_of_file name (length file))) pieces
    ∙ (ap (λ (l : List ℕ). old ++ (pieces_from name 0 again.pieces ++ end_of_file name (length l))) one
    ∙ sym (from_end again))) in (one, (moment, rest))

-- what was read whole between two moments is one file
pub IsReadWhole-unique : (old new : List Reply) (name first second : List ℕ) → IsReadWhole old new name first
    → IsReadWhole old new name second
    → first ≡ second
IsReadWhole-unique old new name first second one other = (one_read old new new name first second [] [] one other refl).0

-- a file that was read up to some place wasn't read whole before
unended_before : (old new middle ys : List Reply) (name bytes file : List ℕ) → IsReadTo old new name bytes
    → IsReadWhole old middle name file → new ≡ middle ++ ys → ⊥
unended_before old new middle ys name bytes file so whole is =
    pieces-not_ended name 0 (length file) so.pieces whole.pieces ys so.some
    (append_cancel_left old _ _ (sym so.calls ∙ (is ∙ from_rest whole ys)))

-- nor was one of which a piece couldn't be read
ungiven_before : (old new after middle ys : List Reply) (name bytes file : List ℕ) (at : ℕ)
    → IsReadTo old new name bytes → after ≡ new ++ Piece name at None ∷ [] → IsReadWhole old middle name file
    → after ≡ middle ++ ys → ⊥
ungiven_before old new after middle ys name bytes file at so is whole then =
    let calls : after ≡ old ++ (pieces_from name 0 so.pieces ++ Piece name at None ∷ []) =
    is ∙ ap (λ l. l ++ Piece name at None ∷ []) so.calls
    ∙ append_assoc old (pieces_from name 0 so.pieces) (Piece name at None ∷ []) in
    pieces_from-not_given name 0 at (length file) so.pieces whole.pieces ys so.some
    (append_cancel_left old _ _ (sym calls ∙ (then ∙ from_rest whole ys)))

-- so one that was read in part wasn't read whole, whatever was asked behind it
pub part-not_whole : (old new middle ys : List Reply) (name file : List ℕ) → IsReadInPart old new name
    → IsReadWhole old middle name file → new ≡ middle ++ ys → ⊥
part-not_whole old new middle ys name file (before, bytes, so, inl is) whole then =
    unended_before old new middle ys name bytes file
    (subst (λ (l : List Reply). IsReadTo old l name bytes) (sym is) so) whole then
part-not_whole old new middle ys name file (before, bytes, so, inr is) whole then =
    ungiven_before old before new middle ys name bytes file (length bytes) so is whole then

pub IsReadTo-not_whole : (old new : List Reply) (name bytes file : List ℕ) → IsReadTo old new name bytes
    → IsReadWhole old new name file → ⊥
IsReadTo-not_whole old new name bytes file so whole =
    unended_before old new new [] name bytes file so whole (sym (append-nil new))

pub IsReadTo-failed_not_whole : (old new after : List Reply) (name bytes file : List ℕ) (at : ℕ)
    → IsReadTo old new name bytes
    → after ≡ new ++ Piece name at None ∷ [] → IsReadWhole old after name file → ⊥
IsReadTo-failed_not_whole old new after name bytes file at so is whole =
    ungiven_before old new after after [] name bytes file at so is whole (sym (append-nil after))
