-- What was read as a list of values is read to its end, a value after the other.
use Rattle.std.proofs.Common.{◌≡◌, ◌≤◌, ℕ, ℤ, List, [], ◌∷◌, ◌++◌, Bool, true, false, cond, ◌||◌, Option, Some, None}
use Rattle.std.proofs.Common.{Ok, Err, length, refl, sym, ◌∙◌, ap, subst, arith}
use Rattle.std.specs.Option.{option_and_then}
use Rattle.alpha_token.specs.Bytes.{is_label}
use Rattle.alpha_token.specs.Numeral.{number_value}
use Rattle.alpha_token.specs.Tokens.{Lexeme, Tokens, End, Bad, Next, left_of, tokens}
use Rattle.alpha_token.proofs.TokenSuffixes.{tokens-empty}
use Rattle.alpha_token.proofs.TokenOrder.{LeftBehind, left-rest-falls, tokens-fall}
use Rattle.alpha_token.proofs.SplitLines.{TokensAlike, tokens-cut}
use Rattle.alpha_operands.specs.declared.piece.Piece.{Piece}
use Rattle.alpha_operands.specs.declared.piece.Piece.TheVariants as pieces
use Rattle.alpha_operands.specs.declared.shape.Shape.{Shape}
use Rattle.alpha_operands.specs.declared.number.Sign.{Sign}
use Rattle.alpha_operands.specs.declared.number.Sign.TheVariants as signs
use Rattle.alpha_operands.specs.declared.number.Number.{Number}
use Rattle.alpha_operands.specs.declared.number.Number.TheVariants as numbers
use Rattle.alpha_operands.specs.declared.operands.LineFaultKind.{LineFaultKind}
use Rattle.alpha_operands.specs.declared.operands.LineFaultKind.TheVariants.{UnknownName, BadOperands, OutOfRange}
use Rattle.alpha_operands.specs.Names.{register_of, operator_of}
use Rattle.alpha_operands.specs.Ranges.{number_of, offset_of}
use Rattle.alpha_operands.specs.Shapes.{Pattern, patterns}
use Rattle.alpha_operands.specs.Operands.{Slots, nothing, with_value, filled}
use Rattle.alpha_operands.specs.Walk.{is_whole, piece_behind, front_after, sign_after, follow, operands}
use Rattle.alpha_operands.specs.Values.{Listed, number, label, list_shape, then_on, up_to_comma, first_operands}
use Rattle.alpha_operands.specs.Values.{value_in, value_of, first_value, next_of, AreValuesOf, IsWholeList}
use Rattle.alpha_operands.specs.Values.{IsReadAsList}
use Rattle.alpha_operands.proofs.SlotChanges.{a_value, cond-ok, ok-injective, filled-changes}
use Rattle.alpha_operands.proofs.ListPatterns.{is_valued, is_again, is_listed, seen_in, seen_in-front_after}
use Rattle.alpha_operands.proofs.ListPatterns.{listed_behind}
use Rattle.alpha_operands.proofs.ListPatterns.{seen_whole, list_shape-Formed, is_whole-nil}
use Rattle.alpha_operands.proofs.OperandRanges.{if_in-inside}
use Rattle.alpha_operands.proofs.Grammar.{cond-ok_or_fault, piece_behind-is, is_whole-is, grammar-took, grammar-went}

-- the operands of a value that was seen are one
abbrev HasValue : Slots → Type 0
HasValue o = (v : Listed) × (value_of o ≡ Some v)

a_number : (n : ℕ) (offset : ℤ) (name : Option (List ℕ))
    → (v : Listed) × (value_in (Some (numbers.Value n)) offset name ≡ Some v)
a_number n offset None = (number n, refl)
a_number n offset (Some name) = (label name offset, refl)

value_in-other_label : (n : Option Number) (a b : ℤ) (name : Option (List ℕ)) (v : Listed) → value_in n a name ≡ Some v
    → (w : Listed) × (value_in n b name ≡ Some w)
value_in-other_label n a b (Some name) v h = (label name b, refl)
value_in-other_label (Some (numbers.Value n)) a b None v h = (number n, refl)
value_in-other_label None a b None v h = cc
value_in-other_label (Some n) a b None v h = cc

or_false : (a : Bool) → (a || false) ≡ true → a ≡ true
or_false true h = refl
or_false false h = h

-- a value stays one, and a piece that gives one leaves one
value-stays : (bytes : ℕ) (p : Piece) (t : Lexeme) (sign : Sign) (o r : Slots) (seen : Bool) → is_listed bytes p ≡ true
    → (seen ≡ true → HasValue o) → filled p t sign o ≡ Ok r → (seen || is_valued p) ≡ true → HasValue r
unfolding filled is_listed is_valued number_of
value-stays bytes pieces.Byte t sign o r seen l has h s =
    let (v, e, k) = a_value (number_of pieces.Byte sign (number_value t.text)) OutOfRange _ r h in
    rw (← k, ← (if_in-inside _ _ v e).1) (a_number _ o.offset o.label)
value-stays bytes pieces.Word t sign o r seen l has h s =
    let (v, e, k) = a_value (number_of pieces.Word sign (number_value t.text)) OutOfRange _ r h in
    rw (← k, ← (if_in-inside _ _ v e).1) (a_number _ o.offset o.label)
value-stays bytes pieces.Long t sign o r seen l has h s =
    let (v, e, k) = a_value (number_of pieces.Long sign (number_value t.text)) OutOfRange _ r h in
    rw (← k, ← (if_in-inside _ _ v e).1) (a_number _ o.offset o.label)
value-stays bytes pieces.Quad t sign o r seen l has h s =
    let (v, e, k) = a_value (number_of pieces.Quad sign (number_value t.text)) OutOfRange _ r h in
    rw (← k, ← (if_in-inside _ _ v e).1) (a_number _ o.offset o.label)
value-stays bytes pieces.Label t sign o r seen l has h s =
    let (b, k) = cond-ok (is_label t.text) _ r h in
    rw (← k) (label t.text o.offset, refl)
value-stays bytes pieces.Offset t sign o r seen l has h s =
    let (n, e, k) = a_value (offset_of sign (number_value t.text)) OutOfRange _ r h in
    let (v, is) = has (or_false seen s) in
    rw (← k) (value_in-other_label o.number o.offset n o.label v is)
value-stays bytes pieces.Plus t sign o r seen l has h s = rw (← ok-injective _ r h) (has (or_false seen s))
value-stays bytes pieces.Less t sign o r seen l has h s = rw (← ok-injective _ r h) (has (or_false seen s))
value-stays bytes pieces.Minus t sign o r seen l has h s = rw (← ok-injective _ r h) (has (or_false seen s))
value-stays bytes pieces.Again t sign o r seen l has h s = rw (← ok-injective _ r h) (has (or_false seen s))
value-stays bytes p t sign o r seen l has h s = cc

given_too : {A : Type 0} (x y : Option A) (kind : LineFaultKind) (f g : A → Slots) (r : Slots) → y ≡ x
    → with_value x kind f ≡ Ok r → (n : Slots) × (with_value y kind g ≡ Ok n)
given_too None y kind f g r e h = cc
given_too (Some v) y kind f g r e h = (g v, rw e refl)

label_too : (b c : Bool) (o n r : Slots) → c ≡ b → cond b (Ok o) (Err BadOperands) ≡ Ok r
    → (m : Slots) × (cond c (Ok n) (Err BadOperands) ≡ Ok m)
label_too true c o n r e h = (n, rw e refl)
label_too false c o n r e h = cc

-- a token's value depends on its text alone
filled-too : (p : Piece) (t u : Lexeme) (sign : Sign) (o n r : Slots) → u.text ≡ t.text → filled p t sign o ≡ Ok r
    → (m : Slots) × (filled p u sign n ≡ Ok m)
unfolding filled
filled-too pieces.Ra t u sign o n r e h =
    given_too (register_of t.text) (register_of u.text) UnknownName _ _ r (ap register_of e) h
filled-too pieces.Rb t u sign o n r e h =
    given_too (register_of t.text) (register_of u.text) UnknownName _ _ r (ap register_of e) h
filled-too pieces.Rc t u sign o n r e h =
    given_too (register_of t.text) (register_of u.text) UnknownName _ _ r (ap register_of e) h
filled-too pieces.Operator t u sign o n r e h =
    given_too (operator_of t.text) (operator_of u.text) UnknownName _ _ r (ap operator_of e) h
filled-too pieces.Label t u sign o n r e h = label_too (is_label t.text) (is_label u.text) _ _ r (ap is_label e) h
filled-too pieces.Offset t u sign o n r e h =
    given_too (offset_of sign (number_value t.text)) (offset_of sign (number_value u.text)) OutOfRange _ _ r
    (ap (λ s. offset_of sign (number_value s)) e) h
filled-too pieces.Text t u sign o n r e h = (_, refl)
filled-too pieces.Comma t u sign o n r e h = (_, refl)
filled-too pieces.Again t u sign o n r e h = (_, refl)
filled-too pieces.Open t u sign o n r e h = (_, refl)
filled-too pieces.Close t u sign o n r e h = (_, refl)
filled-too pieces.Minus t u sign o n r e h = (_, refl)
filled-too pieces.Plus t u sign o n r e h = (_, refl)
filled-too pieces.Less t u sign o n r e h = (_, refl)
filled-too pieces.Dot t u sign o n r e h = (_, refl)
filled-too p t u sign o n r e h =
    given_too (number_of p sign (number_value t.text)) (number_of p sign (number_value u.text)) OutOfRange _ _ r
    (ap (λ s. number_of p sign (number_value s)) e) h

-- the first value of what is left of a list, and the values behind it to its end
abbrev FirstOf : ℕ → Option (Slots × List ℕ) → Type 0
FirstOf bytes found =
    (o : Slots) × (rest : List ℕ) × (v : Listed) × (vs : List Listed) × (found ≡ Some (o, rest)) × (value_of o ≡ Some v)
    × AreValuesOf bytes rest vs

-- a whole list that has a first value
list-of : (bytes : ℕ) (s : Shape) (list : List ℕ) → list_shape bytes ≡ Some s
    → FirstOf bytes (first_operands (patterns s) [] signs.Plus (tokens list) nothing) → IsWholeList bytes list
unfolding first_value
list-of bytes s list shape (o, rest, v, vs, found, is, behind) = (v, vs, (rest, rw (shape, found, is) refl, behind))

again-is : (p : Piece) → is_again p ≡ true → p ≡ pieces.Again
unfolding is_again
again-is pieces.Again h = refl
again-is p h = cc

-- on behind a piece other than the comma of a list
up_to_comma-behind_piece : (t : Lexeme) (sign : Sign) (o : Slots) (p : Piece)
    (more : Piece → Slots → Option (Slots × List ℕ))
    → is_again p ≡ false → up_to_comma t sign o (Some p) more ≡ then_on (filled p t sign o) (more p)
unfolding is_again
up_to_comma-behind_piece t sign o pieces.Again more h = cc
up_to_comma-behind_piece t sign o p more h = refl

next_piece-comma : (t : Lexeme) (sign : Sign) (o : Slots) (p : Piece) (more : Piece → Slots → Option (Slots × List ℕ))
    → is_again p ≡ true → up_to_comma t sign o (Some p) more ≡ Some (o, t.rest)
unfolding is_again
next_piece-comma t sign o pieces.Again more h = refl
next_piece-comma t sign o p more h = cc

-- at the front of a list no value was seen
HasValue-none_seen : (o : Slots) → seen_in false [] ≡ true → HasValue o
unfolding seen_in
HasValue-none_seen o h = cc

FirstOf-list_shape : (bytes : ℕ) (s : Shape) → list_shape bytes ≡ Some s
    → (c : List ℕ) (front : Pattern) (sign : Sign) (us ts : Tokens) (o n r : Slots) → TokensAlike c us ts
    → (seen_in false front ≡ true → HasValue n) →
    follow (patterns s) front sign ts o ≡ Ok r → FirstOf bytes (first_operands (patterns s) front sign us n)
FirstOf-list_shape bytes s shape c front sign (End cut) (End left) o n r alike has h =
    let (b, same) = cond-ok_or_fault (is_whole (patterns s) front) o r left h in
    let (v, is) =
    has (seen_whole bytes (patterns s) front (list_shape-Formed bytes s shape) (is_whole-is (patterns s) front b)) in
    (n, [], v, [], rw (alike, b) refl, is, refl)
FirstOf-list_shape bytes s shape c front sign (End cut) (Bad left) o n r alike has h = absurd alike
FirstOf-list_shape bytes s shape c front sign (End cut) (Next t ts) o n r alike has h = absurd alike
FirstOf-list_shape bytes s shape c front sign (Bad cut) ts o n r alike has h = absurd alike
FirstOf-list_shape bytes s shape c front sign (Next u us) (End left) o n r alike has h = absurd alike
FirstOf-list_shape bytes s shape c front sign (Next u us) (Bad left) o n r alike has h = absurd alike
FirstOf-list_shape bytes s shape c front sign (Next u us) (Next t ts) o n r (kind, text, behind, alike) has h =
    let (p, found, g) = grammar-took t sign o (piece_behind (patterns s) front t.kind)
    (λ p filled. follow (patterns s) (front_after front p) (sign_after p) ts filled) r h in
    let (next, ok, m) = grammar-went (left_of t) (filled p t sign o)
    (λ filled. follow (patterns s) (front_after front p) (sign_after p) ts filled) r g in
    let (goes, k) = piece_behind-is (patterns s) front t.kind p found in
    let (l, before) = listed_behind bytes (patterns s) front p (list_shape-Formed bytes s shape) goes in
    let here : piece_behind (patterns s) front u.kind ≡ Some p = ap (piece_behind (patterns s) front) kind ∙ found in
    let more : Piece → Slots → Option (Slots × List ℕ) =
    λ p filled. first_operands (patterns s) (front_after front p) (sign_after p) us filled in
    let either : (b : Bool) → is_again p ≡ b → FirstOf bytes (up_to_comma u sign n (piece_behind (patterns s) front
    u.kind) (λ p filled. first_operands (patterns s) (front_after front p) (sign_after p) us filled)) =
    λ b. elim b as (λ x. is_again p ≡ x → FirstOf bytes (up_to_comma u sign n (piece_behind (patterns s) front u.kind)
    (λ p filled. first_operands (patterns s) (front_after front p) (sign_after p) us filled))) [
      | true ↦ λ e.
          let (v, is) = has (rw e at before) in
          let anew : follow (patterns s) [] signs.Plus ts next ≡ Ok r =
          subst (λ x. follow (patterns s) (front_after front x) (sign_after x) ts next ≡ Ok r) (again-is p e) m in
          let first : FirstOf bytes (first_operands (patterns s) [] signs.Plus (tokens u.rest) nothing) =
          subst (λ x. FirstOf bytes (first_operands (patterns s) [] signs.Plus x nothing)) behind
          (FirstOf-list_shape bytes s shape c [] signs.Plus us ts next nothing r alike
          (HasValue-none_seen nothing) anew) in
          let (w, ws, values) = list-of bytes s u.rest shape first in (
            n,
            u.rest,
            v,
            w ∷ ws,
            ap (λ found. up_to_comma u sign n found more) here ∙ next_piece-comma u sign n p more e,
            is,
            values,
          )
      | false ↦ λ e.
          let (new, too) = filled-too p t u sign o n next text ok in
          let first : FirstOf bytes (first_operands (patterns s) (front_after front p) (sign_after p) us new) =
          FirstOf-list_shape bytes s shape c (front_after front p) (sign_after p) us ts next new r alike
          (λ x. value-stays bytes p u
          sign n new (seen_in false front) l has too (sym (seen_in-front_after front p e) ∙ x)) m in
          let same : up_to_comma u sign n (piece_behind (patterns s) front u.kind) more
          ≡ first_operands (patterns s) (front_after front p) (sign_after p) us new =
          ap (λ found. up_to_comma u sign n found more) here ∙ up_to_comma-behind_piece u sign n p more e
          ∙ ap (λ x. then_on x (more p)) too in
          subst (FirstOf bytes) (sym same) first
    ] in
    either (is_again p) refl

-- how many bytes are left is told by the last token
follow-left : (all : List Pattern) (front : Pattern) (sign : Sign) (ts : Tokens) (o r : Slots)
    → follow all front sign ts o ≡ Ok r → LeftBehind o.left ts r.left
follow-left all front sign (End left) o r h =
    let (b, same) = cond-ok_or_fault (is_whole all front) o r left h in
    ap (λ (x : Slots). x.left) same
follow-left all front sign (Bad left) o r h = cc
follow-left all front sign (Next t ts) o r h =
    let (p, found, g) = grammar-took t sign o (piece_behind all front t.kind)
    (λ p filled. follow all (front_after front p) (sign_after p) ts filled) r h in
    let (next, ok, m) = grammar-went (left_of t) (filled p t sign o)
    (λ filled. follow all (front_after front p) (sign_after p) ts filled) r g in
    subst (λ n. LeftBehind n ts r.left) (filled-changes p t sign o next ok).0
    (follow-left all (front_after front p) (sign_after p) ts next r m)

-- where there is a token, what is left doesn't depend on what was left before
some_token : (all : List Pattern) (ts : Tokens) (o r : Slots) (n : ℕ) → is_whole all [] ≡ false
    → follow all [] signs.Plus ts o ≡ Ok r → LeftBehind o.left ts r.left → LeftBehind n ts r.left
some_token all (End left) o r n none h l =
    let (b, same) = cond-ok_or_fault (is_whole all []) o r left h in
    let no_end : false ≡ true = sym none ∙ b in
    cc
some_token all (Bad left) o r n none h l = cc
some_token all (Next t ts) o r n none h l = l

-- a list ends within its line
pub left-within : (bytes : ℕ) (s : Shape) (line : List ℕ) (o : Slots) → list_shape bytes ≡ Some s
    → operands (patterns s) (tokens line) ≡ Ok o → o.left ≤ length line
unfolding operands
left-within bytes s line o shape h =
    let l : LeftBehind 0 (tokens line) o.left = follow-left (patterns s) [] signs.Plus (tokens line) nothing o h in
    left-rest-falls (length line) (tokens line) o.left (tokens-fall line)
    (some_token (patterns s) (tokens line) nothing o (length line) (is_whole-nil bytes s shape) h l)

pub values-read : (bytes : ℕ) (list behind : List ℕ) → IsReadAsList bytes list behind → IsWholeList bytes list
unfolding operands
values-read bytes list behind (s, o, shape, h, left) =
    let l : LeftBehind 0 (tokens (list ++ behind)) o.left =
    follow-left (patterns s) [] signs.Plus (tokens (list ++ behind)) nothing o h in
    let whole : LeftBehind (length (list ++ behind)) (tokens (list ++ behind)) o.left = some_token (patterns s)
    (tokens (list ++ behind)) nothing o (length (list ++ behind)) (is_whole-nil bytes s shape) h l in
    let alike : TokensAlike behind (tokens list) (tokens (list ++ behind)) =
    tokens-cut list behind (length (list ++ behind)) (omega arith) (rw left at whole) in
    list-of bytes s list shape
    (FirstOf-list_shape bytes s shape behind [] signs.Plus (tokens list)
    (tokens (list ++ behind)) nothing nothing o alike
    (HasValue-none_seen nothing) h)

first-none : (bytes : ℕ) (shape : Option Shape) → list_shape bytes ≡ shape
    → option_and_then (λ s. first_value s []) shape ≡ None
unfolding first_value
first-none bytes None e = refl
first-none bytes (Some s) e = rw (tokens-empty [] refl, is_whole-nil bytes s e) refl

pub values-none : (bytes : ℕ) → next_of bytes [] ≡ None
values-none bytes = first-none bytes (list_shape bytes) refl

no_first : (bytes : ℕ) (list : List ℕ) (v : Listed) (rest : List ℕ) → list ≡ [] → next_of bytes list ≡ Some (v, rest)
    → ⊥
no_first bytes list v rest e h =
    let none : (let x : Option (Listed × List ℕ) = None in x) ≡ Some (v, rest) =
    sym (values-none bytes) ∙ sym (ap (next_of bytes) e) ∙ h in
    cc

pub AreValuesOf-unique : (bytes : ℕ) (list : List ℕ) (vs ws : List Listed) → AreValuesOf bytes list vs
    → AreValuesOf bytes list ws
    → vs ≡ ws
AreValuesOf-unique bytes list [] [] h k = refl
AreValuesOf-unique bytes list [] (w ∷ ws) h (rest, k, m) = absurd (no_first bytes list w rest h k)
AreValuesOf-unique bytes list (v ∷ vs) [] (rest, h, m) k = absurd (no_first bytes list v rest k h)
AreValuesOf-unique bytes list (v ∷ vs) (w ∷ ws) (rest, h, m) (other, k, n) =
    let e : (let x : Listed × List ℕ = (v, rest) in x) ≡ (w, other) =
    (let same : (let x : Option (Listed × List ℕ) = Some (v, rest) in x) ≡ Some (w, other) = sym h ∙ k in cc) in
    let head : v ≡ w = ap (λ (x : Listed × List ℕ). x.0) e in
    let behind : rest ≡ other = ap (λ (x : Listed × List ℕ). x.1) e in
    cc (head, AreValuesOf-unique bytes rest vs ws m (rw behind n))
