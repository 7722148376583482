-- The code words of a module are told by its spelling, also where it is only known that a source makes it.
use Rattle.std.proofs.Common.{◌≡◌, ◌⊎◌, ◌∙◌, ℕ, ◌+◌, ◌*◌, ◌<◌, ◌≤◌, ◌^◌, Bool, true, false, cond, List, [], ◌∷◌, ◌++◌}
use Rattle.std.proofs.Common.{length, map, take, drop, nat_lt, nat_le, Option, None, Some, Result, Ok, Err, All, refl}
use Rattle.std.proofs.Common.{sym, ap, subst, inl, inr, arith}
use Rattle.std.specs.List.{AllByRecursion, flat_map}
use Rattle.std.specs.Option.{option_map, option_or}
use Rattle.std.specs.Result.{result_unwrap_or}
use Rattle.std.specs.Str.Lines.{lines}
use Rattle.std.proofs.Math.Seq.{take-append_seam}
use Rattle.std.proofs.lemmas.Bool.{leb-true}
use Rattle.std.proofs.lemmas.List.Elements.{All-nil, All-cons, All-append}
use Rattle.alpha_words.specs.declared.Level.{Level}
use Rattle.alpha_words.specs.declared.Level.TheVariants.{One, Two}
use Rattle.alpha_table.specs.declared.form.Form.{Form}
use Rattle.alpha_table.specs.Columns.{level_of}
use Rattle.alpha_table.specs.Row.{IsInsn}
use Rattle.alpha_text.specs.declared.reader.LineFault.{LineFault}
use Rattle.alpha_text.specs.Statements.{Stmt}
use Rattle.alpha_text.specs.Statements as says
use Rattle.alpha_text.specs.Reading.{LineStmt, read}
use Rattle.alpha_image.specs.Layout.{longword}
use Rattle.alpha_image.specs.Reading.{longword_at, words_of}
use Rattle.alpha_image.specs.Parts.{IsCodeWord, IsWithin}
use Rattle.alpha_image.specs.Insns.{IsCodeInsn}
use Rattle.alpha_image.specs.FirstOf.{unless as field_unless, first_of}
use Rattle.alpha_image.proofs.CodeInsns.{IsCodeWord-map_encoded}
use Rattle.alpha_image.proofs.CodeWords.{words_of-flat_map, length-flat_map_longword}
use Rattle.alpha_image.proofs.FieldRules.{option_or-both_none}
use Rattle.alpha_image.proofs.LittleEndianNumbers.{longword_at-front}
use Rattle.alpha_asm.specs.declared.fault.AsmFault.{AsmFault}
use Rattle.alpha_asm.specs.declared.fault.AsmFault.TheVariants.{ImageField, LongLine}
use Rattle.alpha_asm.specs.declared.kind.SourceKind.TheVariants as source_kinds
use Rattle.alpha_asm.specs.Assembled.{item_at, refused, refused_read, first_refused, unless}
use Rattle.alpha_asm.specs.Layout.{Place, placed, layout, place_after, start}
use Rattle.alpha_asm.specs.Patches.{raw_insns}
use Rattle.alpha_round.proofs.LineInsns.{SaysInsn, read-insn}
use Rattle.alpha_link.specs.Header.{header_bytes}
use Rattle.alpha_link.specs.Symbols.{symbol_bytes}
use Rattle.alpha_link.specs.Relocations.{relocation_bytes}
use Rattle.alpha_link.specs.Parts.{ModuleParts, IsModule, sizes_of}
use Rattle.alpha_link.specs.Spelled.{spelling}
use Rattle.alpha_link.specs.Made.{bad_field, made_module, module_of, module_within_limits}
use Rattle.alpha_cmd.specs.Commands.Link.{IsMade}

-- few words enough for the module's header, each of which is one of the code
record HaveWords (m : ModuleParts) : Type 0 where
  level : Level
  few : length m.words < 2 ^ 32
  good : All (IsCodeWord level) m.words

-- ---- by the bytes

header_words : (m : ModuleParts) (tail : List ℕ) → length m.words < 2 ^ 32
    → longword_at 8 (header_bytes (sizes_of m) ++ tail) ≡ length m.words
unfolding header_bytes longword
header_words m tail small =
    longword_at-front (header_bytes (sizes_of m) ++ tail) 8 (length m.words)
    (drop 12 (header_bytes (sizes_of m) ++ tail)) refl small

header_tail : (m : ModuleParts) (tail : List ℕ) → drop 28 (header_bytes (sizes_of m) ++ tail) ≡ tail
unfolding header_bytes longword
header_tail m tail = refl

take_code : (words rest : List ℕ) → take (4 * length words) (flat_map longword words ++ rest) ≡ flat_map longword words
take_code words rest =
    ap (λ n. take n (flat_map longword words ++ rest)) (sym (length-flat_map_longword words))
    ∙ take-append_seam (flat_map longword words) rest

abbrev words_at_front : List ℕ → List ℕ
words_at_front bytes = words_of (take (4 * longword_at 8 bytes) (drop 28 bytes))

words_back : (m : ModuleParts) → HaveWords m → words_at_front (spelling m) ≡ m.words
unfolding spelling
words_back m h =
    let rest = m.bytes ++ (flat_map symbol_bytes m.symbols ++ flat_map relocation_bytes m.relocations) in
    let tail = flat_map longword m.words ++ rest in
    ap (λ n. words_of (take (4 * n) (drop 28 (header_bytes (sizes_of m) ++ tail)))) (header_words m tail h.few)
    ∙ (ap (λ l. words_of (take (4 * length m.words) l)) (header_tail m tail)
    ∙ (ap words_of (take_code m.words rest) ∙ words_of-flat_map h.level m.words h.good))

same_words : (m n : ModuleParts) → HaveWords m → HaveWords n → spelling m ≡ spelling n → m.words ≡ n.words
same_words m n h g e = sym (words_back m h) ∙ (ap words_at_front e ∙ words_back n g)

-- ---- of a source

any_level : (l : Level) → IsWithin l Two
any_level One = omega arith
any_level Two = omega arith

one_insn : (i : Form) → IsInsn i → All (IsCodeInsn Two) (i ∷ [])
one_insn i h = All-cons (IsCodeInsn Two) i [] (h, any_level (level_of i)) (All-nil (IsCodeInsn Two))

said_insns : (s : Stmt) → SaysInsn s → All (IsCodeInsn Two) (raw_insns s)
said_insns (says.code i) h = one_insn i h
said_insns (says.target i label offset) h = one_insn i h
said_insns (says.high i label offset) h = one_insn i h
said_insns (says.low i label offset) h = one_insn i h
said_insns s h = All-nil (IsCodeInsn Two)

item_insns : (p : Place) (n : ℕ) (is : List LineStmt) → AllByRecursion (λ (i : LineStmt). SaysInsn i.statement) is
    → All (IsCodeInsn Two) (flat_map (λ x. raw_insns x.item.statement) (placed p n is))
item_insns p n [] h = All-nil (IsCodeInsn Two)
item_insns p n (i ∷ is) h =
    All-append (IsCodeInsn Two) (raw_insns i.statement)
    (flat_map (λ x. raw_insns x.item.statement) (placed (place_after p i.statement) (n + 1) is))
    (said_insns i.statement h.0) (item_insns (place_after p i.statement) (n + 1) is h.1)

-- a line that is not refused is read
line_insn : (is : List LineStmt) (line : List ℕ) → refused source_kinds.Module is line ≡ None
    → SaysInsn (item_at line).statement
unfolding refused
line_insn is line h = by (nat_lt 1024 (length line)) (read line) refl h
  where
    by : (t : Bool) (r : Result LineStmt LineFault) → read line ≡ r
        → cond t (Some (LongLine (length is + 1))) (refused_read source_kinds.Module is (length is + 1) r) ≡ None
        → SaysInsn (result_unwrap_or r (record { label = None; statement = says.empty })).statement
    by true r e h = cc
    by false (Err fault) e h = cc
    by false (Ok i) e h = read-insn line i e

lines_insns : (is : List LineStmt) (ls : List (List ℕ)) → first_refused source_kinds.Module is ls ≡ None
    → AllByRecursion (λ (i : LineStmt). SaysInsn i.statement) (map item_at ls)
lines_insns is [] h = tt
lines_insns is (l ∷ ls) h =
    let (taken, rest) =
    option_or-both_none (refused source_kinds.Module is l)
    (first_refused source_kinds.Module (is ++ item_at l ∷ []) ls) h in
    (line_insn is l taken, lines_insns (is ++ item_at l ∷ []) ls rest)

unless_ok : (o : Option AsmFault) (r : Result ModuleParts AsmFault) (m : ModuleParts) → unless o r ≡ Ok m
    → (o ≡ None) × (r ≡ Ok m)
unless_ok None r m h = (refl, h)
unless_ok (Some fault) r m h = cc

few_first : (b : Bool) (rest : Option ℕ) → option_map ImageField (option_or (field_unless b 3) rest) ≡ None → b ≡ true
few_first true rest h = refl
few_first false rest h = cc

few_words : (words filled zeroed : ℕ) → option_map ImageField (bad_field words filled zeroed) ≡ None → words ≤ 262144
few_words words filled zeroed h =
    leb-true words 262144
    (few_first (nat_le words 262144)
    (first_of (field_unless (nat_le filled 16777216) 4 ∷ field_unless (nat_le (filled + zeroed) 16777216) 5 ∷ [])) h)

abbrev made_ok : ModuleParts → Result ModuleParts AsmFault
made_ok m = Ok m

ok_parts : (m n : ModuleParts) → made_ok m ≡ Ok n → m ≡ n
ok_parts m n h = cc

items_words : (is : List LineStmt) → AllByRecursion (λ (i : LineStmt). SaysInsn i.statement) is
    → All (IsCodeWord Two) (module_of is).words
unfolding module_of layout
items_words is h =
    (IsCodeWord-map_encoded Two (flat_map (λ x. raw_insns x.item.statement) (placed start 1 is))
    (item_insns start 1 is h)).0

made_words : (source : List ℕ) (m : ModuleParts) → made_module source ≡ Ok m → HaveWords m
unfolding made_module
made_words source m h =
    let is = map item_at (lines source) in
    let (taken, done) =
    unless_ok (first_refused source_kinds.Module [] (lines source)) (module_within_limits (module_of is)) m h in
    let made = module_of is in
    let (fine, same) = unless_ok (option_map ImageField (bad_field (length made.words) (length made.bytes) made.zeroed))
    (made_ok made) m done in
    let few : length made.words ≤ 262144 = few_words (length made.words) (length made.bytes) made.zeroed fine in
    let whole : HaveWords made =
    record { level = Two; few = omega arith; good = items_words is (lines_insns [] (lines source) taken) } in
    subst HaveWords (ok_parts made m same) whole

module_words : (m : ModuleParts) → IsModule m → HaveWords m
module_words m good =
    record { level = One; few = (let few : length m.words ≤ 262144 = good.few in omega arith); good = good.words }

-- a module that is good, or that a source makes
known_words : (m : ModuleParts) → IsModule m ⊎ IsMade m → HaveWords m
known_words m (inl good) = module_words m good
known_words m (inr (source, made)) = made_words source m made

-- two of them with one spelling have the same words
pub spelled_words : (m n : ModuleParts) → IsModule m ⊎ IsMade m → IsModule n → spelling m ≡ spelling n
    → m.words ≡ n.words
spelled_words m n known good e = same_words m n (known_words m known) (module_words n good) e
