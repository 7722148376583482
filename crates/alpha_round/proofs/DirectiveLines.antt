-- The lines of directives read back.
use Rattle.std.proofs.Common.{◌≡◌, ℕ, ◌-◌, ◌^◌, ◌<◌, ◌≤◌, List, [], ◌∷◌, ◌++◌, length, get_or, All, true, false, eqb}
use Rattle.std.proofs.Common.{nat_le, nat_lt, Some, Ok, codes, decimal, refl, sym, ◌∙◌, ap, subst, append-nil, take_all}
use Rattle.std.proofs.Common.{length-append, arith}
use Rattle.std.specs.List.{list_all, prefix_len}
use Rattle.std.specs.Str.{all_ascii_digits}
use Rattle.std.specs.Char.{is_ascii_digit}
use Rattle.std.proofs.lemmas.Bool.Decides.{nat_tests}
use Rattle.std.proofs.lemmas.Fmt.{decimal_nonempty}
use Rattle.std.proofs.lemmas.Bool.{and_parts}
use Rattle.alpha_words.specs.declared.Level.{Level}
use Rattle.alpha_words.specs.declared.Level.TheVariants as levels
use Rattle.alpha_words.specs.Levels.{level_number}
use Rattle.alpha_token.specs.declared.token.TokenKind.TheVariants as kinds
use Rattle.alpha_token.specs.Bytes.{is_blank, goes_on_name}
use Rattle.alpha_token.specs.Numeral.{number_value}
use Rattle.alpha_token.specs.Tokens.{Tokens, End, Next, name_kind, token_at, tokens}
use Rattle.alpha_operands.specs.declared.piece.Piece.{Piece}
use Rattle.alpha_operands.specs.declared.piece.Piece.TheVariants as pieces
use Rattle.alpha_operands.specs.declared.number.Sign.TheVariants as signs
use Rattle.alpha_operands.specs.declared.number.Number.{Number}
use Rattle.alpha_operands.specs.declared.number.Number.TheVariants as numbers
use Rattle.alpha_operands.specs.declared.shape.Shape.{Shape}
use Rattle.alpha_operands.specs.declared.shape.Shape.TheVariants as shapes
use Rattle.alpha_operands.specs.Ranges.{number_of}
use Rattle.alpha_operands.specs.Shapes.{patterns}
use Rattle.alpha_operands.specs.Operands.{Slots, nothing, filled}
use Rattle.alpha_operands.specs.Walk.{operands}
use Rattle.alpha_text.specs.Heads.{every_pseudo_op, every_mnemonic, head_of}
use Rattle.alpha_text.specs.Statements.{Stmt, whole_in, zeroed_in, level_in, entry_stmt}
use Rattle.alpha_text.specs.Statements as says
use Rattle.alpha_text.specs.Reading.{list_in, with_head, read}
use Rattle.alpha_text.proofs.FormatOperands.{alone_words}
use Rattle.alpha_text.specs.SuffixWords.{BeginsWithout}
use Rattle.alpha_text.proofs.CanonicalTokens.{prefix_len-run, token-next, tokens-space, is_ascii_digit-begins_nothing}
use Rattle.alpha_text.proofs.CanonicalTokens.{decimal-digits}
use Rattle.alpha_image.specs.Parts.{IsByte}
use Rattle.alpha_dis.specs.Listing.{hexadecimal, address_line, count_line, byte_line}
use Rattle.alpha_round.proofs.ListingItems.{statement_line, row_statement}
use Rattle.alpha_round.proofs.JoinedLines.{AreInside, inside-append}
use Rattle.alpha_round.proofs.NumberTexts.{IsNumberText, decimal-text, decimal-short, decimal-inside, hexadecimal-text}
use Rattle.alpha_round.proofs.NumberTexts.{hexadecimal-short, hexadecimal-inside}
use Rattle.alpha_round.proofs.StatementsAlone.{IsLineOf}
use Rattle.alpha_round.proofs.DataRows.{row_text, row_follow, length-row_text, row_inside}

-- ---- the name of a directive

dot_at : (s : List ℕ) → token_at 46 s ≡ Some (name_kind 46 (prefix_len goes_on_name s), prefix_len goes_on_name s)
unfolding token_at
dot_at s = refl

name_kind-longer : (n : ℕ) → 0 < n → name_kind 46 n ≡ kinds.Name
name_kind-longer n h = let e : eqb n 0 ≡ false = grind (arith, nat_tests) in rw e refl

-- a `.` and then a name's bytes
token-dot : (ds s : List ℕ) → list_all goes_on_name ds ≡ true → 0 < length ds → BeginsWithout goes_on_name s
    → tokens (46 ∷ (ds ++ s)) ≡ Next (record { kind = kinds.Name; text = 46 ∷ ds; rest = s }) (tokens s)
token-dot ds s h some stop =
    token-next 46 ds s kinds.Name refl (λ x. cc)
    (dot_at (ds ++ s)
    ∙ (ap (λ (n : ℕ). Some (name_kind 46 n, n)) (prefix_len-run goes_on_name ds s h stop)
    ∙ ap (λ k. Some (k, length ds)) (name_kind-longer (length ds) some)))

-- the name of a directive: the shape of its operands, and what it says with them
record IsDirective (name : List ℕ) (shape : Shape) (say : Slots → List ℕ → Stmt) : Type 0 where
  token : (s : List ℕ) → BeginsWithout goes_on_name s
      → tokens (name ++ s) ≡ Next (record { kind = kinds.Name; text = name; rest = s }) (tokens s)
  short : nat_le (length name) 100 ≡ true
  inside : AreInside name
  reads : (behind : List ℕ) (ts : Tokens) (o : Slots) → operands (patterns shape) ts ≡ Ok o
      → with_head (record { kind = kinds.Name; text = name; rest = behind }) ts (head_of name)
      ≡ Ok (say o (list_in behind o.left))

read_own : (name rest : List ℕ) (shape : Shape) (say : Slots → List ℕ → Stmt) (o : Slots) → IsDirective name shape say
    → BeginsWithout goes_on_name rest → eqb (get_or rest 0 0) 58 ≡ false
    → operands (patterns shape) (tokens rest) ≡ Ok o
    → read (name ++ rest) ≡ Ok (statement_line (say o (list_in rest o.left)))
unfolding read
read_own name rest shape say o d stop no_colon h = rw (d.token rest stop, no_colon, d.reads rest (tokens rest) o h) refl

-- ---- a directive and a number

abbrev slots_of_number : Number → Slots
slots_of_number v = record nothing { number = Some v; left = 0 }

-- a piece that alone is a whole pattern
abbrev number_operand : Shape → Piece → Type 0
number_operand shape p = (text : List ℕ) (v : Number) → number_of p signs.Plus (number_value text) ≡ Some v
    → operands (patterns shape) (Next (record { kind = kinds.Number; text = text; rest = [] }) (End 0))
    ≡ Ok (slots_of_number v)

field_operand : number_operand shapes.Field pieces.Whole
unfolding operands patterns filled
field_operand text v h = rw h refl

entry_operand : number_operand shapes.Entry pieces.Whole
unfolding operands patterns filled
entry_operand text v h = rw h refl

zeroed_operand : number_operand shapes.Zeroed pieces.Zeroed
unfolding operands patterns filled
zeroed_operand text v h = rw h refl

level_operand : number_operand shapes.Level pieces.Level
unfolding operands patterns filled
level_operand text v h = rw h refl

number_line : (name text : List ℕ) (shape : Shape)
    (say : Slots → List ℕ → Stmt) (p : Piece) (n : ℕ) (v : Number) (s : Stmt)
    → IsDirective name shape say → number_operand shape p
    → IsNumberText text n → length text ≤ 66 → AreInside text → number_of p signs.Plus n ≡ Some v
    → ((list : List ℕ) → say (slots_of_number v) list ≡ s) → IsLineOf (name ++ 32 ∷ text) s
number_line name text shape say p n v s d operand t size inside value e =
    let few : length name ≤ 100 = (let h = d.short in grind (arith, nat_tests)) in
    let found : number_of p signs.Plus (number_value text) ≡ Some v = ap (number_of p signs.Plus) t.value ∙ value in
    let front : tokens (32 ∷ text) ≡ Next (record { kind = kinds.Number; text = text; rest = [] }) (End 0) =
    tokens-space text ∙ t.token in
    record {
      short = omega (arith, length-append name (32 ∷ text));
      inside = inside-append name (32 ∷ text) d.inside inside;
      says =
          read_own name (32 ∷ text) shape say (slots_of_number v) d refl refl
          (ap (operands (patterns shape)) front ∙ operand text v found)
          ∙ ap (λ x. Ok (statement_line x)) (e (list_in (32 ∷ text) 0));
    }

whole_is : (n : ℕ) → n < 2 ^ 64 → number_of pieces.Whole signs.Plus n ≡ Some (numbers.Whole n)
unfolding number_of
whole_is n h = let e : nat_lt n (2 ^ 64) ≡ true = grind (arith, nat_tests) in rw e refl

zeroed_is : (n : ℕ) → n ≤ 16777216 → number_of pieces.Zeroed signs.Plus n ≡ Some (numbers.Zeroed n)
unfolding number_of
zeroed_is n h = let e : nat_le n 16777216 ≡ true = grind (arith, nat_tests) in rw e refl

level_is : (l : Level) → number_of pieces.Level signs.Plus (level_number l) ≡ Some (numbers.Level (level_number l))
unfolding number_of
level_is levels.One = refl
level_is levels.Two = refl

-- a number in decimal digits, and an address
IsLineOf-count : (name : List ℕ) (shape : Shape) (say : Slots → List ℕ → Stmt) (p : Piece) (n : ℕ) (v : Number)
    (s : Stmt)
    → IsDirective name shape say → number_operand shape p → n < 2 ^ 64
    → number_of p signs.Plus n ≡ Some v → ((list : List ℕ) → say (slots_of_number v) list ≡ s)
    → IsLineOf (count_line name n) s
IsLineOf-count name shape say p n v s d operand small value e =
    number_line name (decimal n) shape say p n v s d operand (decimal-text n small) (omega (arith, decimal-short n))
    (decimal-inside n) value e

IsLineOf-address : (name : List ℕ) (shape : Shape) (say : Slots → List ℕ → Stmt) (n : ℕ) (s : Stmt)
    → IsDirective name shape say
    → number_operand shape pieces.Whole → n < 2 ^ 64
    → ((list : List ℕ) → say (slots_of_number (numbers.Whole n)) list ≡ s) → IsLineOf (address_line name n) s
IsLineOf-address name shape say n s d operand small e =
    number_line name (hexadecimal n) shape say pieces.Whole n (numbers.Whole n) s d operand (hexadecimal-text n small)
    (hexadecimal-short n) (hexadecimal-inside n) (whole_is n small) e

code_base_name : IsDirective (codes ".codebase") shapes.Field (λ o list. says.code_base (whole_in o.number))
unfolding head_of every_mnemonic every_pseudo_op
code_base_name = record {
  token = λ s. token-dot (codes "codebase") s refl (omega arith);
  short = refl;
  inside = refl;
  reads = λ behind ts o h. rw h refl;
}

data_base_name : IsDirective (codes ".database") shapes.Field (λ o list. says.data_base (whole_in o.number))
unfolding head_of every_mnemonic every_pseudo_op
data_base_name = record {
  token = λ s. token-dot (codes "database") s refl (omega arith);
  short = refl;
  inside = refl;
  reads = λ behind ts o h. rw h refl;
}

stack_name : IsDirective (codes ".stack") shapes.Field (λ o list. says.stack (whole_in o.number))
unfolding head_of every_mnemonic every_pseudo_op
stack_name = record {
  token = λ s. token-dot (codes "stack") s refl (omega arith);
  short = refl;
  inside = refl;
  reads = λ behind ts o h. rw h refl;
}

segment_name : IsDirective (codes ".segment") shapes.Field (λ o list. says.segment (whole_in o.number))
unfolding head_of every_mnemonic every_pseudo_op
segment_name = record {
  token = λ s. token-dot (codes "segment") s refl (omega arith);
  short = refl;
  inside = refl;
  reads = λ behind ts o h. rw h refl;
}

entry_name : IsDirective (codes ".entry") shapes.Entry (λ o list. entry_stmt o o.label)
unfolding head_of every_mnemonic every_pseudo_op
entry_name = record {
  token = λ s. token-dot (codes "entry") s refl (omega arith);
  short = refl;
  inside = refl;
  reads = λ behind ts o h. rw h refl;
}

level_name : IsDirective (codes ".level") shapes.Level (λ o list. says.level (level_in o.number))
unfolding head_of every_mnemonic every_pseudo_op
level_name = record {
  token = λ s. token-dot (codes "level") s refl (omega arith);
  short = refl;
  inside = refl;
  reads = λ behind ts o h. rw h refl;
}

zero_name : IsDirective (codes ".zero") shapes.Zeroed (λ o list. says.zero (zeroed_in o.number))
unfolding head_of every_mnemonic every_pseudo_op
zero_name = record {
  token = λ s. token-dot (codes "zero") s refl (omega arith);
  short = refl;
  inside = refl;
  reads = λ behind ts o h. rw h refl;
}

code_name : IsDirective (codes ".code") shapes.Alone (λ o list. says.code_section)
unfolding head_of every_mnemonic every_pseudo_op
code_name = record {
  token = λ s. token-dot (codes "code") s refl (omega arith);
  short = refl;
  inside = refl;
  reads = λ behind ts o h. rw h refl;
}

data_name : IsDirective (codes ".data") shapes.Alone (λ o list. says.data_section)
unfolding head_of every_mnemonic every_pseudo_op
data_name = record {
  token = λ s. token-dot (codes "data") s refl (omega arith);
  short = refl;
  inside = refl;
  reads = λ behind ts o h. rw h refl;
}

byte_name : IsDirective (codes ".byte") shapes.Bytes (λ o list. says.values 1 list)
unfolding head_of every_mnemonic every_pseudo_op
byte_name = record {
  token = λ s. token-dot (codes "byte") s refl (omega arith);
  short = refl;
  inside = refl;
  reads = λ behind ts o h. rw h refl;
}

pub code_base_line : (n : ℕ) → n < 2 ^ 64 → IsLineOf (address_line (codes ".codebase") n) (says.code_base n)
code_base_line n h =
    IsLineOf-address (codes ".codebase") shapes.Field _ n (says.code_base n) code_base_name field_operand h
    (λ list. refl)

pub data_base_line : (n : ℕ) → n < 2 ^ 64 → IsLineOf (address_line (codes ".database") n) (says.data_base n)
data_base_line n h =
    IsLineOf-address (codes ".database") shapes.Field _ n (says.data_base n) data_base_name field_operand h
    (λ list. refl)

pub entry_line : (n : ℕ) → n < 2 ^ 64 → IsLineOf (address_line (codes ".entry") n) (says.entry_at n)
entry_line n h =
    IsLineOf-address (codes ".entry") shapes.Entry _ n (says.entry_at n) entry_name entry_operand h (λ list. refl)

pub segment_line : (n : ℕ) → n < 2 ^ 64 → IsLineOf (address_line (codes ".segment") n) (says.segment n)
segment_line n h =
    IsLineOf-address (codes ".segment") shapes.Field _ n (says.segment n) segment_name field_operand h (λ list. refl)

pub stack_line : (n : ℕ) → n < 2 ^ 64 → IsLineOf (count_line (codes ".stack") n) (says.stack n)
stack_line n h =
    IsLineOf-count (codes ".stack") shapes.Field _ pieces.Whole n (numbers.Whole n)
    (says.stack n) stack_name field_operand h
    (whole_is n h) (λ list. refl)

pub zero_line : (n : ℕ) → n ≤ 16777216 → IsLineOf (count_line (codes ".zero") n) (says.zero n)
zero_line n h =
    IsLineOf-count (codes ".zero") shapes.Zeroed _ pieces.Zeroed n (numbers.Zeroed n)
    (says.zero n) zero_name zeroed_operand
    (omega arith) (zeroed_is n h) (λ list. refl)

level_small : (l : Level) → level_number l < 2 ^ 64
level_small levels.One = omega arith
level_small levels.Two = omega arith

pub level_line : (l : Level) → IsLineOf (count_line (codes ".level") (level_number l)) (says.level (level_number l))
level_line l =
    IsLineOf-count (codes ".level") shapes.Level _ pieces.Level (level_number l) (numbers.Level (level_number l))
    (says.level (level_number l)) level_name level_operand (level_small l) (level_is l) (λ list. refl)

-- ---- a directive alone

IsLineOf-alone : (name : List ℕ) (s : Stmt) → IsDirective name shapes.Alone (λ o list. s) → name ++ [] ≡ name
    → IsLineOf name s
IsLineOf-alone name s d same =
    let few : length name ≤ 100 = (let h = d.short in grind (arith, nat_tests)) in
    record {
      short = omega arith;
      inside = d.inside;
      says = ap read (sym same) ∙ read_own name [] shapes.Alone (λ o list. s) nothing d tt refl alone_words;
    }

pub code_line : IsLineOf (codes ".code") says.code_section
code_line = IsLineOf-alone (codes ".code") says.code_section code_name refl

pub data_line : IsLineOf (codes ".data") says.data_section
data_line = IsLineOf-alone (codes ".data") says.data_section data_name refl

-- ---- a row of data bytes

row_operands : (b : ℕ) (row : List ℕ) → All IsByte (b ∷ row)
    → (o : Slots) × (operands (patterns shapes.Bytes) (tokens (32 ∷ row_text (b ∷ row))) ≡ Ok o) × (o.left ≡ 0)
unfolding operands
row_operands b row h =
    let r = row_follow b row nothing h in
    (r.0, ap (operands (patterns shapes.Bytes)) (tokens-space (row_text (b ∷ row))) ∙ r.1, r.2)

-- a row begins with a digit, which is no blank
digits_stop : (ds s : List ℕ) → 0 < length ds → all_ascii_digits ds ≡ true → BeginsWithout is_blank (ds ++ s)
digits_stop [] s some h = absurd (omega arith)
digits_stop (d ∷ ds) s some h =
    (is_ascii_digit-begins_nothing d (and_parts (is_ascii_digit d) (all_ascii_digits ds) h).0).1

row_stops : (b : ℕ) (row : List ℕ) → b < 2 ^ 64 → BeginsWithout is_blank (row_text (b ∷ row))
row_stops b [] h =
    subst (BeginsWithout is_blank) (append-nil (decimal b))
    (digits_stop (decimal b) [] (decimal_nonempty b h) (decimal-digits b h))
row_stops b (c ∷ row) h = digits_stop (decimal b) (44 ∷ row_text (c ∷ row)) (decimal_nonempty b h) (decimal-digits b h)

no_blank : (t : List ℕ) → BeginsWithout is_blank t → prefix_len is_blank t ≡ 0
no_blank [] stop = refl
no_blank (c ∷ t) stop = rw stop refl

-- the list of a row is all that stands behind the space
whole_list : (t : List ℕ) (left : ℕ) → BeginsWithout is_blank t → left ≡ 0 → list_in (32 ∷ t) left ≡ t
whole_list t left stop e = rw (no_blank t stop, e) (take_all (length t - 0) t (omega arith))

pub row_line : (b : ℕ) (row : List ℕ) → length (b ∷ row) ≤ 16 → All IsByte (b ∷ row)
    → IsLineOf (byte_line (b ∷ row)) (row_statement (b ∷ row))
row_line b row few h =
    let r = row_operands b row h in
    let small : b < 2 ^ 64 = omega (arith, h 0 0 (omega arith)) in
    record {
      short = omega (arith, length-row_text (b ∷ row) h, length-append (codes ".byte ") (row_text (b ∷ row)));
      inside = inside-append (codes ".byte ") (row_text (b ∷ row)) refl (row_inside (b ∷ row));
      says =
          read_own (codes ".byte") (32 ∷ row_text (b ∷ row)) shapes.Bytes
          (λ o list. says.values 1 list) r.0 byte_name refl refl r.1
          ∙ ap (λ l. Ok (statement_line (says.values 1 l)))
          (whole_list (row_text (b ∷ row)) r.0.left (row_stops b row small) r.2);
    }
