-- A line that is read says whole labels and small offsets, and of an instruction with an address displacement 0.
use Rattle.std.proofs.Common.{◌≡◌, ◌≤◌, ◌<◌, ◌^◌, ◌-◌, ℕ, zero, suc, ℤ, pos, neg_ℤ, List, [], ◌∷◌, Bool, true, false}
use Rattle.std.proofs.Common.{cond, Option, Some, None, Ok, Err, IfSome, length, length-drop, length-take, drop, subst}
use Rattle.std.proofs.Common.{nat_lt, refl, ap, inl, inr, arith, lit≤}
use Rattle.std.specs.Option.{option_map, option_map_or, option_and_then}
use Rattle.std.specs.List.{prefix_len, AllByRecursion}
use Rattle.std.proofs.lemmas.Bool.Decides.{nat_tests}
use Rattle.alpha_table.specs.declared.form.Form.TheVariants.{Mem}
use Rattle.alpha_table.specs.declared.names.Mnemonic.TheVariants as mnemonics
use Rattle.alpha_table.specs.declared.rows.MemOp.{MemOp}
use Rattle.alpha_table.specs.declared.rows.BranchOp.{BranchOp}
use Rattle.alpha_token.specs.declared.token.TokenKind.TheVariants as kinds
use Rattle.alpha_token.specs.Bytes.{is_blank, is_label}
use Rattle.alpha_token.specs.Numeral.{number_value}
use Rattle.alpha_token.specs.Tokens.{Lexeme, Tokens, End, Bad, Next, left_of, tokens}
use Rattle.alpha_operands.specs.declared.names.Half.{Half}
use Rattle.alpha_operands.specs.declared.names.Half.TheVariants as halves
use Rattle.alpha_operands.specs.declared.number.Number.{Number}
use Rattle.alpha_operands.specs.declared.number.Number.TheVariants as numbers
use Rattle.alpha_operands.specs.declared.number.Sign.{Sign}
use Rattle.alpha_operands.specs.declared.number.Sign.TheVariants as signs
use Rattle.alpha_operands.specs.declared.piece.Piece.{Piece}
use Rattle.alpha_operands.specs.declared.piece.Piece.TheVariants as pieces
use Rattle.alpha_operands.specs.declared.shape.Shape.{Shape}
use Rattle.alpha_operands.specs.declared.operands.LineFaultKind.TheVariants.{UnknownName, OutOfRange}
use Rattle.alpha_operands.specs.Names.{register_of, operator_of}
use Rattle.alpha_operands.specs.Ranges.{signed, number_of, offset_of}
use Rattle.alpha_operands.specs.Shapes.{Pattern, patterns}
use Rattle.alpha_operands.specs.Operands.{Slots, nothing, filled}
use Rattle.alpha_operands.specs.Values.{Listed, number, label as listed_label, ended, then_on, up_to_comma}
use Rattle.alpha_operands.specs.Values.{first_operands, value_in, value_of, first_value, list_shape, AreValuesOf}
use Rattle.alpha_operands.specs.Walk.{is_whole, piece_behind, front_after, sign_after, follow}
use Rattle.alpha_operands.specs.Grammar.{AreOperands}
use Rattle.alpha_operands.proofs.PatternsApart.{shapes-distinct}
use Rattle.alpha_operands.proofs.SlotChanges.{a_value, cond-ok, ok-injective}
use Rattle.alpha_operands.proofs.ListValueSizes.{value-sized}
use Rattle.alpha_operands.proofs.Grammar.{cond-ok_or_fault, grammar-took, grammar-went, spells-follow}
use Rattle.alpha_text.specs.declared.head.PseudoOp.TheVariants as owns
use Rattle.alpha_text.specs.declared.head.Head.{Head}
use Rattle.alpha_text.specs.declared.head.Head.TheVariants as heads
use Rattle.alpha_text.specs.Heads.{shape_of}
use Rattle.alpha_text.specs.Statements.{Stmt, stmt_by, half_stmt, memory_stmt, branch_stmt, entry_stmt}
use Rattle.alpha_text.specs.Reading.{LineStmt, list_in, read}
use Rattle.alpha_text.specs.Grammar.{IsStatement, IsLabelled, IsLine, IsBehindLabel}
use Rattle.alpha_token.proofs.TokenOrder.{AreInOrder, tokens-fall}
use Rattle.alpha_token.proofs.TokenSuffixes.{tokens-behind}
use Rattle.alpha_text.specs.References.{IsLabel, IsOffset, IsReference, IsListedWell, RefersWell, IsWell}
use Rattle.alpha_text.proofs.Lines.{read-is}

-- a label's offset
IsOffset-negative : (n : ℕ) → n < 2 ^ 31 → IsOffset (neg_ℤ (pos n))
IsOffset-negative zero h = lit≤ tt
IsOffset-negative (suc n) h = omega arith

offset_well : (sign : Sign) (n : ℕ) (v : ℤ) → offset_of sign n ≡ Some v → IsOffset v
offset_well sign n v h = by (nat_lt n (2 ^ 31)) refl h
  where
    here : (s : Sign) → n < 2 ^ 31 → IsOffset (signed s n)
    here signs.Plus l = l
    here signs.Minus l = IsOffset-negative n l

    by : (b : Bool) → nat_lt n (2 ^ 31) ≡ b → cond b (Some (signed sign n)) None ≡ Some v → IsOffset v
    by true e k =
        let l : n < 2 ^ 31 = grind (arith, nat_tests) in
        let same : signed sign n ≡ v = cc in
        rw (← same) (here sign l)
    by false e k = cc

-- operands with whole labels and small offsets
abbrev Refers : ℕ → Slots → Type 0
Refers n o = IfSome o.label (IsLabel n) × IsOffset o.offset

nothing-refers : (n : ℕ) → Refers n nothing
nothing-refers n = (tt, lit≤ tt)

filled-refers : (n : ℕ) (p : Piece) (t : Lexeme) (sign : Sign) (o r : Slots) → length t.text ≤ n → Refers n o
    → filled p t sign o ≡ Ok r → Refers n r
unfolding filled
filled-refers n pieces.Ra t sign o r size good h =
    let (v, e, k) = a_value (register_of t.text) UnknownName _ r h in
    rw (← k) good
filled-refers n pieces.Rb t sign o r size good h =
    let (v, e, k) = a_value (register_of t.text) UnknownName _ r h in
    rw (← k) good
filled-refers n pieces.Rc t sign o r size good h =
    let (v, e, k) = a_value (register_of t.text) UnknownName _ r h in
    rw (← k) good
filled-refers n pieces.Operator t sign o r size good h =
    let (v, e, k) = a_value (operator_of t.text) UnknownName _ r h in
    rw (← k) good
filled-refers n pieces.Label t sign o r size good h =
    let (b, k) = cond-ok (is_label t.text) _ r h in
    rw (← k) ((b, size), good.1)
filled-refers n pieces.Offset t sign o r size good h =
    let (v, e, k) = a_value (offset_of sign (number_value t.text)) OutOfRange _ r h in
    rw (← k) (good.0, offset_well sign (number_value t.text) v e)
filled-refers n pieces.Text t sign o r size good h = rw (← ok-injective _ r h) good
filled-refers n pieces.Comma t sign o r size good h = rw (← ok-injective _ r h) good
filled-refers n pieces.Again t sign o r size good h = rw (← ok-injective _ r h) good
filled-refers n pieces.Open t sign o r size good h = rw (← ok-injective _ r h) good
filled-refers n pieces.Close t sign o r size good h = rw (← ok-injective _ r h) good
filled-refers n pieces.Minus t sign o r size good h = rw (← ok-injective _ r h) good
filled-refers n pieces.Plus t sign o r size good h = rw (← ok-injective _ r h) good
filled-refers n pieces.Less t sign o r size good h = rw (← ok-injective _ r h) good
filled-refers n pieces.Dot t sign o r size good h = rw (← ok-injective _ r h) good
filled-refers n p t sign o r size good h =
    let (v, e, k) = a_value (number_of p sign (number_value t.text)) OutOfRange _ r h in
    rw (← k) good

follow-refers : (n m : ℕ) (all : List Pattern) (front : Pattern) (sign : Sign) (ts : Tokens) (o r : Slots) → m ≤ n
    → AreInOrder m ts → Refers n o → follow all front sign ts o ≡ Ok r → Refers n r
follow-refers n m all front sign (End left) o r low falls good h =
    rw (← (cond-ok_or_fault (is_whole all front) o r left h).1) good
follow-refers n m all front sign (Bad left) o r low falls good h = cc
follow-refers n m all front sign (Next t ts) o r low (left, some, behind) good h =
    let size : length t.text ≤ n = omega arith in
    let rest : length t.rest ≤ n = omega arith in
    let (p, e, g) = grammar-took t sign o (piece_behind all front t.kind)
    (λ p filled. follow all (front_after front p) (sign_after p) ts filled) r h in
    let (next, f, on) = grammar-went (left_of t) (filled p t sign o)
    (λ filled. follow all (front_after front p) (sign_after p) ts filled) r g in
    follow-refers n (length t.rest) all (front_after front p) (sign_after p) ts next r rest behind
    (filled-refers n p t sign o next size good f) on

operands-refer : (n : ℕ) (head : Head) (line : List ℕ) (o : Slots) → length line ≤ n
    → AreOperands (patterns (shape_of head)) (tokens line) o → Refers n o
operands-refer n head line o low (q, c, s) =
    follow-refers n (length line) (patterns (shape_of head)) [] signs.Plus (tokens line) nothing o low
    (tokens-fall line) (nothing-refers n)
    (spells-follow (patterns (shape_of head)) (shapes-distinct (shape_of head)) [] q signs.Plus
    (tokens line) nothing o c s)

-- the values of a list
ended_is : (b : Bool) (o : Slots) (found : Slots × List ℕ) → ended b o ≡ Some found → o ≡ found.0
ended_is true o found h = ap (λ (x : Option (Slots × List ℕ)). option_map_or (λ f. f.0) x o) h
ended_is false o found h = cc

then_refers : (n : ℕ) (r : _) (more : Slots → Option (Slots × List ℕ)) (found : Slots × List ℕ)
    → ((next : Slots) → r ≡ Ok next → Refers n next)
    → ((next : Slots) → Refers n next → more next ≡ Some found → Refers n found.0)
    → then_on r more ≡ Some found → Refers n found.0
then_refers n (Err why) more found good on h = cc
then_refers n (Ok next) more found good on h = on next (good next refl) h

up_refers : (n : ℕ) (t : Lexeme) (sign : Sign) (o : Slots) (x : Option Piece)
    (more : Piece → Slots → Option (Slots × List ℕ)) (found : Slots × List ℕ)
    → length t.text ≤ n → Refers n o
    → ((p : Piece) (next : Slots) → Refers n next → more p next ≡ Some found → Refers n found.0)
    → up_to_comma t sign o x more ≡ Some found → Refers n found.0
up_refers n t sign o None more found size good on h = cc
up_refers n t sign o (Some pieces.Again) more found size good on h =
    let e : o ≡ found.0 = ap (λ (x : Option (Slots × List ℕ)). option_map_or (λ f. f.0) x o) h in rw (← e) good
up_refers n t sign o (Some p) more found size good on h =
    then_refers n (filled p t sign o) (more p) found (λ next e. filled-refers n p t sign o next size good e)
    (λ next. on p next) h

first-refers : (n m : ℕ) (all : List Pattern) (front : Pattern)
    (sign : Sign) (ts : Tokens) (o : Slots) (found : Slots × List ℕ)
    → m ≤ n → AreInOrder m ts → Refers n o → first_operands all front sign ts o ≡ Some found → Refers n found.0
first-refers n m all front sign (End left) o found low falls good h = rw (← ended_is _ o found h) good
first-refers n m all front sign (Bad left) o found low falls good h = cc
first-refers n m all front sign (Next t ts) o found low (left, some, behind) good h =
    let size : length t.text ≤ n = omega arith in
    let rest : length t.rest ≤ n = omega arith in
    up_refers n t sign o (piece_behind all front t.kind)
    (λ p filled. first_operands all (front_after front p) (sign_after p) ts filled) found size good
    (λ p next well on.
    first-refers n (length t.rest) all (front_after front p) (sign_after p) ts next found rest behind well on) h

value-refers : (size : ℕ) (n : Option Number) (offset : ℤ) (name : Option (List ℕ)) (v : Listed)
    → IfSome name (IsLabel size) → IsOffset offset → value_in n offset name ≡ Some v → IsListedWell size v
value-refers size n offset (Some name) v a b h = let e : listed_label name offset ≡ v = cc in rw (← e) (a, b)
value-refers size (Some (numbers.Value n)) offset None v a b h = let e : number n ≡ v = cc in rw (← e) tt
value-refers size None offset None v a b h = cc
value-refers size (Some n) offset None v a b h = cc

found_value : (n : ℕ) (found : Slots × List ℕ) (o : Option Listed) (x : Listed × List ℕ) → value_of found.0 ≡ o
    → Refers n found.0 → option_map {U = Listed × List ℕ} (λ v. (v, found.1)) o ≡ Some x → IsListedWell n x.0
found_value n found None x e good h = cc
found_value n found (Some v) x e good h =
    let same : v ≡ x.0 = ap (λ (y : Option (Listed × List ℕ)). option_map_or (λ f. f.0) y v) h in
    rw (← same) (value-refers n found.0.number found.0.offset found.0.label v good.0 good.1 e)

first_found : (n : ℕ) (s : Shape) (list : List ℕ) (o : Option (Slots × List ℕ)) (x : Listed × List ℕ) → length list ≤ n
    → first_operands (patterns s) [] signs.Plus (tokens list) nothing ≡ o
    → option_and_then (λ found. option_map {U = Listed × List ℕ} (λ v. (v, found.1)) (value_of found.0)) o ≡ Some x
    → IsListedWell n x.0
first_found n s list None x low e h = cc
first_found n s list (Some found) x low e h =
    found_value n found (value_of found.0) x refl
    (first-refers n (length list) (patterns s) [] signs.Plus
    (tokens list) nothing found low (tokens-fall list) (nothing-refers n) e)
    h

first_value-refers : (n : ℕ) (s : Shape) (list : List ℕ) (x : Listed × List ℕ) → length list ≤ n
    → first_value s list ≡ Some x → IsListedWell n x.0
unfolding first_value
first_value-refers n s list x low h =
    first_found n s list (first_operands (patterns s) [] signs.Plus (tokens list) nothing) x low refl h

next_found : (n bytes : ℕ) (list : List ℕ) (o : Option Shape) (x : Listed × List ℕ) → length list ≤ n
    → list_shape bytes ≡ o → option_and_then (λ shape. first_value shape list) o ≡ Some x
    → IsListedWell n x.0 × (length x.1 < length list)
next_found n bytes list None x low shape h = cc
next_found n bytes list (Some s) x low shape h =
    (first_value-refers n s list x low h, (value-sized bytes s list x.0 x.1 shape h).1)

values_well : (n bytes : ℕ) (list : List ℕ) (all : List Listed) → length list ≤ n → AreValuesOf bytes list all
    → AllByRecursion (IsListedWell n) all
values_well n bytes list [] low h = tt
values_well n bytes list (v ∷ all) low (rest, e, more) =
    let (well, shorter) = next_found n bytes list (list_shape bytes) (v, rest) low refl e in
    (well, values_well n bytes rest all (omega arith) more)

-- what a statement says
half-refers : (n : ℕ) (half : Option Half) (op : MemOp) (ra rb : ℕ) (name : List ℕ) (offset : ℤ)
    → IsReference n name offset → RefersWell n (half_stmt half (Mem op ra rb (pos 0)) name offset)
half-refers n None op ra rb name offset r = tt
half-refers n (Some halves.High) op ra rb name offset r = (refl, r)
half-refers n (Some halves.Low) op ra rb name offset r = (refl, r)

memory-refers : (n : ℕ) (op : MemOp) (o : Slots) (name : Option (List ℕ)) → IfSome name (IsLabel n) → IsOffset o.offset
    → RefersWell n (memory_stmt op o name)
memory-refers n op o None a b = tt
memory-refers n op o (Some name) a b = half-refers n o.half op _ _ name o.offset (a, b)

branch-refers : (n : ℕ) (op : BranchOp) (o : Slots) (name : Option (List ℕ)) → IfSome name (IsLabel n)
    → IsOffset o.offset → RefersWell n (branch_stmt op o name)
branch-refers n op o None a b = tt
branch-refers n op o (Some name) a b = (refl, (a, b))

entry-refers : (n : ℕ) (o : Slots) (name : Option (List ℕ)) → IfSome name (IsLabel n) → IsOffset o.offset
    → RefersWell n (entry_stmt o name)
entry-refers n o None a b = tt
entry-refers n o (Some name) a b = (a, b)

stmt_by-refers : (n : ℕ) (head : Head) (o : Slots) (list : List ℕ) → length list ≤ n → Refers n o
    → RefersWell n (stmt_by head o list)
stmt_by-refers n (heads.Insn (mnemonics.Mem op)) o list low (a, b) = memory-refers n op o o.label a b
stmt_by-refers n (heads.Insn (mnemonics.Branch op)) o list low (a, b) = branch-refers n op o o.label a b
stmt_by-refers n (heads.Insn (mnemonics.Jump kind)) o list low h = tt
stmt_by-refers n (heads.Insn (mnemonics.Operate op)) o list low h = tt
stmt_by-refers n (heads.Insn (mnemonics.Misc op)) o list low h = tt
stmt_by-refers n (heads.Insn (mnemonics.Fetch modify)) o list low h = tt
stmt_by-refers n (heads.Insn (mnemonics.Pal call)) o list low h = tt
stmt_by-refers n (heads.PseudoOp owns.Byte) o list low h = λ all. values_well n 1 list all low
stmt_by-refers n (heads.PseudoOp owns.Word) o list low h = λ all. values_well n 2 list all low
stmt_by-refers n (heads.PseudoOp owns.Long) o list low h = λ all. values_well n 4 list all low
stmt_by-refers n (heads.PseudoOp owns.Quad) o list low h = λ all. values_well n 8 list all low
stmt_by-refers n (heads.PseudoOp owns.Entry) o list low (a, b) = entry-refers n o o.label a b
stmt_by-refers n (heads.PseudoOp _) o list low h = tt

in_list : (behind : List ℕ) (left : ℕ) → length (list_in behind left) ≤ length behind
in_list behind left =
    let list = drop (prefix_len is_blank behind) behind in
    omega (arith, length-take (length list - left) list, length-drop (prefix_len is_blank behind) behind)

statement-refers : (n : ℕ) (line : List ℕ) (ts : Tokens) (s : Stmt) → length line ≤ n → tokens line ≡ ts
    → AreInOrder (length line) ts → IsStatement ts s → RefersWell n s
statement-refers n line (End left) s low e f h = rw h tt
statement-refers n line (Bad left) s low e f h = absurd h
statement-refers n line (Next t ts) s low e (left, some, behind) (k, head, found, o, a, says) =
    let rest : length t.rest ≤ n = omega arith in
    let in_rest = in_list t.rest o.left in
    rw says (stmt_by-refers n head o _ (omega (arith, in_rest)) (operands-refer n head t.rest o rest
    (subst (λ (us : Tokens). AreOperands (patterns (shape_of head)) us o) (tokens-behind line t ts e) a)))

labelled-well : (n : ℕ) (ts : Tokens) (l : LineStmt) → AreInOrder n ts → IsLabelled ts → IsBehindLabel ts l → IsWell n l
labelled-well n (End left) l f there h = absurd h
labelled-well n (Bad left) l f there h = absurd h
labelled-well n (Next t ts) l (left, some, behind) there (good, is, s) =
    let rest : length (drop 1 t.rest) ≤ n = omega (arith, length-drop 1 t.rest) in
    let size : length t.text ≤ n = omega arith in
    record {
      label = rw is (good, size);
      statement =
          statement-refers n (drop 1 t.rest) (tokens (drop 1 t.rest)) l.statement rest refl
          (tokens-fall (drop 1 t.rest)) s;
    }

line-well : (line : List ℕ) (l : LineStmt) → IsLine (tokens line) l → IsWell (length line) l
line-well line l (inl (there, h)) = labelled-well (length line) (tokens line) l (tokens-fall line) there h
line-well line l (inr (none, is, s)) = record {
  label = rw is tt;
  statement = statement-refers (length line) line (tokens line) l.statement (omega arith) refl (tokens-fall line) s;
}

pub read-well : (line : List ℕ) (l : LineStmt) → read line ≡ Ok l → IsWell (length line) l
read-well line l h = line-well line l ((read-is line l).0 h)
