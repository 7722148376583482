-- Modules that link, link to an image.
use Rattle.std.proofs.Common.{◌≡◌, ℕ, ℤ, zero, suc, ◌+◌, ◌-◌, ◌*◌, ◌/◌, ◌%◌, ◌≤◌, Bool, true, false, cond, nat_le, List}
use Rattle.std.proofs.Common.{[], ◌∷◌, ◌++◌, length, map, take, drop, replicate, slice_get, Option, None, Some, Result}
use Rattle.std.proofs.Common.{Ok, refl, sym, ap, subst, ◌∙◌, arith}
use Rattle.std.specs.Prelude.{All, slice_set, IsSomeAnd}
use Rattle.std.specs.List.{flat_map, filter_map, cons_option}
use Rattle.std.specs.Option.{option_map, option_map_or, option_and_then}
use Rattle.std.proofs.lemmas.List.{length-append, length-map, length-replicate}
use Rattle.std.proofs.lemmas.List.Elements.{All-nil, All-cons, All-head, All-tail, All-append, All-replicate, All-set}
use Rattle.std.proofs.lemmas.List.Elements.{All-take, All-drop}
use Rattle.std.proofs.lemmas.Option.{get_or_from_slice_get, slice_get_within}
use Rattle.alpha_words.specs.Digits.{digits, low_bytes}
use Rattle.alpha_words.specs.declared.Level.TheVariants as levels
use Rattle.alpha_words.specs.Levels.{level_number}
use Rattle.alpha_table.specs.declared.form.Form.{Form}
use Rattle.alpha_table.specs.Row.{IsInsn}
use Rattle.alpha_table.specs.Columns.{level_of}
use Rattle.alpha_table.specs.Decoded.{decoded}
use Rattle.alpha_table.proofs.Levels.{level_in-decoded}
use Rattle.alpha_table.specs.Encoded.{encoded}
use Rattle.alpha_table.proofs.DecodedInsns.{Row-decoded, IsInsn-Row}
use Rattle.alpha_image.specs.Parts.{Parts, IsByte, IsCodeWord, IsWithin, IsImage}
use Rattle.alpha_image.specs.PartsOf.{parts_with}
use Rattle.alpha_image.specs.Insns.{IsCodeInsn}
use Rattle.alpha_image.specs.Rules.{FieldsFit}
use Rattle.alpha_image.specs.FieldTests.{least_bad_field}
use Rattle.alpha_image.specs.declared.version.Version.TheVariants.{One}
use Rattle.alpha_image.proofs.CodeInsns.{IsCodeWord-map_encoded}
use Rattle.alpha_image.proofs.FieldRules.{FieldsFit-least}
use Rattle.alpha_asm.specs.Program.{Program, program_of, program_with}
use Rattle.alpha_asm.proofs.FinishedProgram.{filter_map-decoded}
use Rattle.alpha_asm.specs.declared.statement.RelocField.{RelocField}
use Rattle.alpha_asm.specs.declared.patch.Displacement.{Displacement}
use Rattle.alpha_asm.specs.Layout.{padding}
use Rattle.alpha_asm.specs.Program.{reached, displaced}
use Rattle.alpha_asm.specs.Patches.{overlaid}
use Rattle.alpha_asm.specs.Unlinked.{takes}
use Rattle.alpha_asm.proofs.ReachedAddresses.{reaches-like}
use Rattle.alpha_asm.specs.declared.patch.RelocationKind.{RelocationKind}
use Rattle.alpha_asm.specs.declared.patch.RelocationKind.TheVariants as kinds
use Rattle.alpha_link.specs.declared.relocation.Relocation.{Relocation}
use Rattle.alpha_link.specs.Parts.{ModuleParts, IsModule}
use Rattle.alpha_link.specs.declared.output.Output.{Output}
use Rattle.alpha_link.specs.Output.{AreAfterCode, JoinsOne}
use Rattle.alpha_link.proofs.LinkedCode.{AreKnownWords-decoded, AreKnownWords-code_words, unless_ok, links_to}
use Rattle.alpha_link.proofs.ShiftedRelocations.{length-bytes_after}
use Rattle.alpha_link.proofs.RelocationSites.{length-code_after}
use Rattle.alpha_link.specs.declared.fault.LinkFault.{LinkFault}
use Rattle.alpha_link.specs.declared.fault.LinkFault.TheVariants.{Duplicate, Undefined, ImageField, Reach}
use Rattle.alpha_link.specs.Linked.{Located, located, places, size, room, last_of, words_in, filled_in, addresses_of}
use Rattle.alpha_link.specs.Linked.{use_of, relocation_target, displacement, quadword, insn_with, code_at, code_after}
use Rattle.alpha_link.specs.Linked.{bytes_after}
use Rattle.alpha_link.specs.Linked.{code_of, bytes_of, data_in, numbers_with, repeated, first_unresolved, out_of_range}
use Rattle.alpha_link.specs.Linked.{entry_of}
use Rattle.alpha_link.specs.Linked.{unless_refused, linked_at, linked}
use Rattle.alpha_link.proofs.JoinedModules.{AreAfterCode-located}

-- ---- instructions of level 1

abbrev pub IsAllowed : Form → Type 0
IsAllowed i = IsCodeInsn levels.One i

displaced_allowed : (field : RelocField) (pc : ℕ) (a : ℤ) (d : Displacement) (i : Form) → reached field pc a ≡ Some d
    → IsAllowed i → IsAllowed (displaced i d)
displaced_allowed field pc a d i e (good, within) =
    let like = reaches-like field pc a i good in (
      subst (λ (o : Option Displacement). IsInsn (option_map_or (displaced i) o i)) e like.insn,
      subst (λ (o : Option Displacement). level_number (level_of (option_map_or (displaced i) o i)) ≤ 1) e
          (rw like.level within),
    )

-- a displacement that an instruction of a relocation's kind may have
pub record Reaches (d : Displacement) : Type 0 where
  pub field : RelocField
  pub pc : ℕ
  pub address : ℤ
  pub reached_so : reached field pc address ≡ Some d

displacement_reaches : (addresses : List (Option ℕ)) (l : Located) (r : Relocation) (d : Displacement)
    → displacement addresses l r ≡ Some d → Reaches d
displacement_reaches addresses l r d e = go (use_of r.kind) (relocation_target addresses r) e
  where
    go : (u : Option RelocField) (a : Option ℤ)
        → option_and_then (λ by. option_and_then (reached by (0x10000 + 4 * l.words + r.offset)) a) u ≡ Some d
        → Reaches d
    go None a h = absurd cc
    go (Some by) None h = absurd cc
    go (Some by) (Some a) h = record { field = by; pc = 0x10000 + 4 * l.words + r.offset; address = a; reached_so = h }

insn_allowed : (kind : RelocationKind) (d : Displacement) (i : Form) → Reaches d → IsAllowed i
    → IsAllowed (insn_with kind d i)
insn_allowed kinds.Quad d i h good = good
insn_allowed (kinds.Insn by) d i h good = either (takes by i)
  where
    either : (b : Bool) → IsAllowed (cond b (displaced i d) i)
    either true = displaced_allowed h.field h.pc h.address d i h.reached_so good
    either false = good

slice_get-IsAllowed : (code : List Form) (place : ℕ) (i : Form) → slice_get code place ≡ Some i → All IsAllowed code
    → IsAllowed i
slice_get-IsAllowed code place i e all =
    subst IsAllowed (get_or_from_slice_get code place i i e) (all place i (slice_get_within code place i e))

code_at_allowed : (kind : RelocationKind) (place : ℕ) (o : Option Displacement) (code : List Form)
    → ((d : Displacement) → o ≡ Some d → Reaches d) → All IsAllowed code → All IsAllowed (code_at kind place o code)
code_at_allowed kind place None code h all = all
code_at_allowed kind place (Some d) code h all = go (slice_get code place) refl
  where
    go : (o : Option Form) → slice_get code place ≡ o
        → All IsAllowed (option_map_or (λ insn. slice_set code place (insn_with kind d insn)) o code)
    go None e = all
    go (Some i) e =
        All-set IsAllowed code place (insn_with kind d i)
        (insn_allowed kind d i (h d refl) (slice_get-IsAllowed code place i e all)) all

code_after_allowed : (addresses : List (Option ℕ)) (l : Located) (rs : List Relocation) (code : List Form)
    → All IsAllowed code → All IsAllowed (code_after addresses l rs code)
code_after_allowed addresses l [] code all = all
code_after_allowed addresses l (r ∷ rs) code all =
    code_after_allowed addresses l rs (code_at r.kind (r.offset / 4) (displacement addresses l r) code)
    (code_at_allowed r.kind (r.offset / 4) (displacement addresses l r) code (displacement_reaches addresses l r) all)

-- the instruction of a good word
word_allowed : (w : ℕ) (i : Form) → IsCodeWord levels.One w → decoded w ≡ Some i → IsAllowed i
word_allowed w i good e = (
  IsInsn-Row w i (Row-decoded w i e),
  subst (λ (o : Option Form). IsSomeAnd o (λ j. IsWithin (level_of j) levels.One)) e
      ((level_in-decoded levels.One w).0 good.1),
)

-- and those of good words
words_allowed : (words : List ℕ) → All (IsCodeWord levels.One) words → All IsAllowed (filter_map decoded words)
words_allowed [] all = All-nil IsAllowed
words_allowed (w ∷ words) all = go (decoded w) refl (words_allowed words (All-tail (IsCodeWord levels.One) w words all))
  where
    go : (o : Option Form) → decoded w ≡ o → All IsAllowed (filter_map decoded words)
        → All IsAllowed (cons_option o (filter_map decoded words))
    go None e later = later
    go (Some i) e later =
        All-cons IsAllowed i (filter_map decoded words)
        (word_allowed w i (All-head (IsCodeWord levels.One) w words all) e) later

-- those of a module that is joined
pub IsAllowed-joined : (addresses : List (Option ℕ)) (l : Located) (old new : Output) → IsModule l.parts
    → JoinsOne addresses l old new → All IsAllowed old.code.items → All IsAllowed new.code.items
IsAllowed-joined addresses l old new good one all =
    let own = filter_map decoded l.parts.words in
    let rs = l.parts.relocations in
    subst (All IsAllowed) (sym one.code)
    (All-append IsAllowed old.code.items (code_after addresses l rs own) all
    (code_after_allowed addresses l rs own (words_allowed l.parts.words good.words)))

abbrev IsGoodLocated : Located → Type 0
IsGoodLocated l = IsModule l.parts

code_allowed : (all ls : List Located) → All IsGoodLocated ls → All IsAllowed (flat_map (code_of all) ls)
code_allowed all [] good = All-nil IsAllowed
code_allowed all (l ∷ ls) good =
    All-append IsAllowed (code_of all l) (flat_map (code_of all) ls)
    (code_after_allowed (addresses_of all l) l l.parts.relocations (filter_map decoded l.parts.words)
    (words_allowed l.parts.words (All-head IsGoodLocated l ls good).words))
    (code_allowed all ls (All-tail IsGoodLocated l ls good))

-- ---- data bytes

byte_digits : (n v : ℕ) → All IsByte (low_bytes n v)
unfolding digits
byte_digits zero v = All-nil IsByte
byte_digits (suc n) v = All-cons IsByte (v % 256) (low_bytes n (v / 256)) (omega arith) (byte_digits n (v / 256))

overlaid_bytes : (at n : ℕ) (bytes : List ℕ) → All IsByte bytes → All IsByte (overlaid at n bytes)
overlaid_bytes at n bytes all = go (nat_le (at + 8) (length bytes))
  where
    go : (b : Bool) → All IsByte (cond b (take at bytes ++ (low_bytes 8 n ++ drop (at + 8) bytes)) bytes)
    go true =
        All-append IsByte (take at bytes) (low_bytes 8 n ++ drop (at + 8) bytes) (All-take IsByte at bytes all)
        (All-append IsByte (low_bytes 8 n) (drop (at + 8) bytes) (byte_digits 8 n) (All-drop IsByte (at + 8) bytes all))
    go false = all

bytes_after_bytes : (addresses : List (Option ℕ)) (rs : List Relocation) (bytes : List ℕ) → All IsByte bytes
    → All IsByte (bytes_after addresses rs bytes)
bytes_after_bytes addresses [] bytes all = all
bytes_after_bytes addresses (r ∷ rs) bytes all =
    bytes_after_bytes addresses rs (option_map_or (λ n. overlaid r.offset n bytes) (quadword addresses r) bytes)
    (go (quadword addresses r))
  where
    go : (o : Option ℕ) → All IsByte (option_map_or (λ n. overlaid r.offset n bytes) o bytes)
    go None = all
    go (Some n) = overlaid_bytes r.offset n bytes all

own_bytes : (all : List Located) (l : Located) → IsGoodLocated l → All IsByte (bytes_of all l)
own_bytes all l good = bytes_after_bytes (addresses_of all l) l.parts.relocations l.parts.bytes good.bytes

zero_byte : IsByte 0
zero_byte = omega arith

data_bytes : (all ls : List Located) → All IsGoodLocated ls → All IsByte (data_in all ls)
data_bytes all [] good = All-nil IsByte
data_bytes all (l ∷ []) good = own_bytes all l (All-head IsGoodLocated l [] good)
data_bytes all (l ∷ next ∷ rest) good =
    All-append IsByte (bytes_of all l)
    (replicate (l.parts.zeroed + padding 13 (size l.parts)) 0 ++ data_in all (next ∷ rest))
    (own_bytes all l (All-head IsGoodLocated l (next ∷ rest) good))
    (All-append IsByte (replicate (l.parts.zeroed + padding 13 (size l.parts)) 0) (data_in all (next ∷ rest))
    (All-replicate IsByte (l.parts.zeroed + padding 13 (size l.parts)) 0 zero_byte)
    (data_bytes all (next ∷ rest) (All-tail IsGoodLocated l (next ∷ rest) good)))

-- ---- sizes

last_more : (l next : Located) (rest : List Located) → last_of (l ∷ next ∷ rest) ≡ last_of (next ∷ rest)
last_more l next rest =
    let there : length (l ∷ next ∷ rest) - 1 ≡ suc (length (next ∷ rest) - 1) = omega arith in
    ap (slice_get (l ∷ next ∷ rest)) there

known_size : (words : List ℕ) → All (IsCodeWord levels.One) words → length (filter_map decoded words) ≡ length words
known_size words all =
    sym (length-map (filter_map decoded words) Some)
    ∙ (ap length (sym (AreKnownWords-decoded words (AreKnownWords-code_words levels.One words all)))
    ∙ length-map words decoded)

own_size : (all : List Located) (l : Located) → IsGoodLocated l → length (code_of all l) ≡ length l.parts.words
own_size all l good =
    length-code_after (addresses_of all l) l l.parts.relocations (filter_map decoded l.parts.words)
    ∙ known_size l.parts.words good.words

code_size : (all : List Located) (l : Located) (ls : List Located) (words filled : ℕ)
    → AreAfterCode words filled (l ∷ ls) → All IsGoodLocated (l ∷ ls)
    → words + length (flat_map (code_of all) (l ∷ ls)) ≡ words_in (l ∷ ls)
code_size all l [] words filled s good =
    let one = own_size all l (All-head IsGoodLocated l [] good) in
    omega (arith, length-append (code_of all l) [], one, s.0)
code_size all l (next ∷ rest) words filled s good =
    let one = own_size all l (All-head IsGoodLocated l (next ∷ rest) good) in
    let later = code_size all next rest (words + length l.parts.words) (filled + room l.parts) s.1.1
    (All-tail IsGoodLocated l (next ∷ rest) good) in
    let more : words + length (flat_map (code_of all) (l ∷ next ∷ rest))
    ≡ words + length l.parts.words + length (flat_map (code_of all) (next ∷ rest)) =
    omega (arith, length-append (code_of all l) (flat_map (code_of all) (next ∷ rest)), one) in
    more ∙ (later ∙ sym (ap (λ (o : Option Located). option_map_or (λ x. x.words + length x.parts.words) o 0)
    (last_more l next rest)))

piece_size : (own blank rest : List ℕ) (filled bytes empty pad : ℕ) → length own ≡ bytes → length blank ≡ empty + pad
    → filled + length (own ++ (blank ++ rest)) ≡ filled + (bytes + empty + pad) + length rest
piece_size own blank rest filled bytes empty pad a b =
    omega (arith, length-append own (blank ++ rest), length-append blank rest, a, b)

data_size : (all : List Located) (l : Located) (ls : List Located) (words filled : ℕ)
    → AreAfterCode words filled (l ∷ ls) → filled + length (data_in all (l ∷ ls)) ≡ filled_in (l ∷ ls)
data_size all l [] words filled s =
    let one : length (bytes_of all l) ≡ length l.parts.bytes =
    length-bytes_after (addresses_of all l) l.parts.relocations l.parts.bytes in
    omega (arith, one, s.1.0)
data_size all l (next ∷ rest) words filled s =
    let one : length (bytes_of all l) ≡ length l.parts.bytes =
    length-bytes_after (addresses_of all l) l.parts.relocations l.parts.bytes in
    let blank : length (replicate (l.parts.zeroed + padding 13 (size l.parts)) 0)
    ≡ l.parts.zeroed + padding 13 (size l.parts) =
    length-replicate (l.parts.zeroed + padding 13 (size l.parts)) 0 in
    let later = data_size all next rest (words + length l.parts.words) (filled + room l.parts) s.1.1 in
    piece_size (bytes_of all l) (replicate (l.parts.zeroed + padding 13 (size l.parts)) 0)
    (data_in all (next ∷ rest)) filled (length l.parts.bytes) l.parts.zeroed (padding 13 (size l.parts)) one blank
    ∙ (later
    ∙ sym
    (ap (λ (o : Option Located). option_map_or (λ x. x.filled + length x.parts.bytes) o 0) (last_more l next rest)))

words_all : (ls : List Located) → AreAfterCode 0 0 ls → All IsGoodLocated ls
    → length (flat_map (code_of ls) ls) ≡ words_in ls
words_all [] s good = refl
words_all (l ∷ ls) s good = let h = code_size (l ∷ ls) l ls 0 0 s good in omega (arith, h)

data_all : (ls : List Located) → AreAfterCode 0 0 ls → length (data_in ls ls) ≡ filled_in ls
data_all [] s = refl
data_all (l ∷ ls) s = let h = data_size (l ∷ ls) l ls 0 0 s in omega (arith, h)

good_places : (ms : List ModuleParts) (number words filled : ℕ) → All IsModule ms
    → All IsGoodLocated (located number words filled ms)
good_places [] number words filled good = All-nil IsGoodLocated
good_places (m ∷ ms) number words filled good =
    All-cons IsGoodLocated (record { number = number; words = words; filled = filled; parts = m })
    (located (number + 1) (words + length m.words) (filled + room m) ms)
    (All-head IsModule m ms good)
    (good_places ms (number + 1) (words + length m.words) (filled + room m) (All-tail IsModule m ms good))

-- each instruction of the modules may stand in an image of the first level, and with them all addresses put in
pub IsAllowed-code_of : (ms : List ModuleParts) → All IsModule ms
    → All IsAllowed (flat_map (code_of (places ms)) (places ms))
IsAllowed-code_of ms good = code_allowed (places ms) (places ms) (good_places ms 0 0 0 good)

-- the image with an entry
good_image : (ms : List ModuleParts) (entry : ℕ) → All IsModule ms
    → least_bad_field (numbers_with (places ms) entry) ≡ None
    → (image : Parts) × IsImage image × (program_of image ≡ program_with One (numbers_with (places ms) entry)
    (flat_map (code_of (places ms)) (places ms)) (data_in (places ms) (places ms)))
good_image ms entry good fine =
    let ls = places ms in
    let stand = AreAfterCode-located ms 0 0 0 in
    let goods = good_places ms 0 0 0 good in
    let code = flat_map (code_of ls) ls in
    let words = IsCodeWord-map_encoded levels.One code (IsAllowed-code_of ms good) in
    let size : length (map encoded code) ≡ words_in ls = length-map code encoded ∙ words_all ls stand goods in
    let fit : FieldsFit (numbers_with ls entry) = FieldsFit-least (numbers_with ls entry) fine in
    let image : Parts = parts_with One (numbers_with ls entry) (map encoded code) (data_in ls ls) in
    let is : IsImage image = record {
      version = (refl, refl);
      fields = subst (λ (n : ℕ). FieldsFit (record (numbers_with ls entry) { words = n })) (sym size) fit;
      words = words.0;
      bytes = data_bytes ls ls goods;
      filled = omega (arith, data_all ls stand);
    } in (
      image,
      is,
      ap (λ (l : List Form). program_with One (numbers_with ls entry) l (data_in ls ls))
          (filter_map-decoded (map encoded code) code words.1),
    )

unless_none : (o : Option LinkFault) (r : Result Program LinkFault) (p : Program) → unless_refused o r ≡ Ok p → o ≡ None
unless_none None r p e = refl
unless_none (Some fault) r p e = absurd cc

field_none : (o : Option ℕ) → option_map ImageField o ≡ None → o ≡ None
field_none None e = refl
field_none (Some n) e = absurd cc

program_is : (q p : Program) → links_to q ≡ Ok p → q ≡ p
program_is q p e = cc

pub linked_image : (ms : List ModuleParts) (entry : List ℕ) (p : Program) → All IsModule ms → linked ms entry ≡ Ok p
    → (image : Parts) × IsImage image × (program_of image ≡ p)
unfolding linked
linked_image ms entry p good e =
    let ls = places ms in
    let a = unless_ok (option_map (λ q. Duplicate q.0 q.1) (repeated [] ls)) _ p e in
    let b = unless_ok (option_map (λ q. Undefined q.0 q.1) (first_unresolved ls)) _ p a in
    at (entry_of ls entry) b
  where
    at : (o : Option ℕ) → linked_at (places ms) o ≡ Ok p → (image : Parts) × IsImage image × (program_of image ≡ p)
    at None h = absurd cc
    at (Some n) h =
        let ls = places ms in
        let field = option_map ImageField (least_bad_field (numbers_with ls n)) in
        let fine = field_none (least_bad_field (numbers_with ls n)) (unless_none field _ p h) in
        let met = unless_ok field _ p h in
        let whole = unless_ok (option_map (λ q. Reach q.0 q.1) (out_of_range ls)) _ p met in
        let found = good_image ms n good fine in
        (found.0, found.1, found.2 ∙ program_is _ p whole)
