-- The lines of code words read back.
use Rattle.std.proofs.Common.{◌≡◌, ℕ, pos, negsuc, suc, zero, ◌+◌, ◌*◌, ◌≤◌, List, [], ◌∷◌, ◌++◌, length, map, All}
use Rattle.std.proofs.Common.{Bool, true, ◌&&◌, nat_le, refl, length-append, arith}
use Rattle.std.specs.List.{list_all, filter_map}
use Rattle.std.specs.Char.{is_ascii_alphabetic}
use Rattle.std.proofs.lemmas.Bool.Decides.{nat_tests}
use Rattle.std.proofs.lemmas.Bool.{and_parts}
use Rattle.alpha_words.specs.declared.Level.{Level}
use Rattle.alpha_table.specs.declared.op.OperandRule.{OperandRule}
use Rattle.alpha_table.specs.declared.op.OperandRule.TheVariants.{Any, Unary, UnaryRegister, Version}
use Rattle.alpha_table.specs.declared.form.Src.{Src}
use Rattle.alpha_table.specs.declared.form.Src.TheVariants.{Reg, Lit}
use Rattle.alpha_table.specs.declared.form.Form.{Form}
use Rattle.alpha_table.specs.declared.form.Form.TheVariants.{Mem, Branch, Jump, Operate, Misc, Fetch, Pal}
use Rattle.alpha_table.specs.Op.{op_row}
use Rattle.alpha_table.specs.Row.{IsInsn}
use Rattle.alpha_table.specs.Names.{name_of, mnemonic_of}
use Rattle.alpha_table.specs.Decoded.{decoded}
use Rattle.alpha_table.proofs.DecodedInsns.{Row-decoded, IsInsn-Row}
use Rattle.alpha_token.specs.Bytes.{goes_on_name}
use Rattle.alpha_text.specs.Statements as says
use Rattle.alpha_text.specs.Canon.{Word, reg, num, mark, spelled, spell, source_words, words_of, behind_name, canon}
use Rattle.alpha_text.proofs.NameLookups.{name_of-short, name_of-word}
use Rattle.alpha_text.proofs.CanonicalLines.{reads_back}
use Rattle.alpha_text.proofs.CanonicalTokens.{is_word}
use Rattle.alpha_image.specs.Parts.{IsCodeWord}
use Rattle.alpha_dis.specs.Listing.{code_line}
use Rattle.alpha_round.proofs.JoinedLines.{is_inside, AreInside, inside-append}
use Rattle.alpha_round.proofs.NumberTexts.{decimal-short, decimal-inside}
use Rattle.alpha_round.proofs.StatementsAlone.{IsLineOf, AreLinesOf}
use Rattle.alpha_round.proofs.ItemsOfListing.{IsCodeWord-one_insn}

-- ---- the words behind the name

abbrev is_fine : Word → Bool
is_fine (reg r) = true
is_fine (num n) = true
is_fine (mark b) = is_inside b

-- eight words at most, whose marks stay in their line
abbrev are_fine : List Word → Bool
are_fine ws = nat_le (length ws) 8 && list_all is_fine ws

source_fine : (rule : OperandRule) (ra : ℕ) (src : Src) (rc : ℕ)
    → are_fine (source_words rule ra src ++ (reg rc ∷ [])) ≡ true
source_fine Any ra (Reg r) rc = refl
source_fine Any ra (Lit n) rc = refl
source_fine Unary ra (Reg r) rc = refl
source_fine Unary ra (Lit n) rc = refl
source_fine UnaryRegister ra (Reg r) rc = refl
source_fine UnaryRegister ra (Lit n) rc = refl
source_fine Version ra src rc = refl

words_fine : (i : Form) → are_fine (words_of i) ≡ true
words_fine (Mem op ra rb (pos n)) = refl
words_fine (Mem op ra rb (negsuc n)) = refl
words_fine (Branch op ra (pos n)) = refl
words_fine (Branch op ra (negsuc zero)) = refl
words_fine (Branch op ra (negsuc (suc n))) = refl
words_fine (Jump kind ra rb hint) = refl
words_fine (Operate op ra src rc) = source_fine (op_row op).operands ra src rc
words_fine (Misc op) = refl
words_fine (Fetch modify rb) = refl
words_fine (Pal call) = refl

word_short : (w : Word) → length (spelled w) ≤ 65
word_short (reg r) = omega (arith, decimal-short r)
word_short (num n) = omega (arith, decimal-short n)
word_short (mark b) = omega arith

word_inside : (w : Word) → is_fine w ≡ true → AreInside (spelled w)
word_inside (reg r) h = decimal-inside r
word_inside (num n) h = decimal-inside n
word_inside (mark b) h = rw h refl

spell_short : (ws : List Word) → length (spell ws) ≤ 65 * length ws
spell_short [] = omega arith
spell_short (w ∷ ws) = omega (arith, word_short w, spell_short ws, length-append (spelled w) (spell ws))

spell_inside : (ws : List Word) → list_all is_fine ws ≡ true → AreInside (spell ws)
spell_inside [] h = refl
spell_inside (w ∷ ws) h =
    let (a, b) = and_parts (is_fine w) (list_all is_fine ws) h in
    inside-append (spelled w) (spell ws) (word_inside w a) (spell_inside ws b)

behind_short : (ws : List Word) → length (behind_name ws) ≤ 1 + 65 * length ws
behind_short [] = omega arith
behind_short (w ∷ ws) = omega (arith, spell_short (w ∷ ws))

behind_inside : (ws : List Word) → list_all is_fine ws ≡ true → AreInside (behind_name ws)
behind_inside [] h = refl
behind_inside (w ∷ ws) h = spell_inside (w ∷ ws) h

-- ---- the name

letter_inside : (b : ℕ) → is_ascii_alphabetic b ≡ true → is_inside b ≡ true
letter_inside b h = grind (arith, nat_tests)

byte_inside : (b : ℕ) → goes_on_name b ≡ true → is_inside b ≡ true
byte_inside b h = grind (arith, nat_tests)

bytes_inside : (l : List ℕ) → list_all goes_on_name l ≡ true → AreInside l
bytes_inside [] h = refl
bytes_inside (b ∷ l) h =
    let (a, k) = and_parts (goes_on_name b) (list_all goes_on_name l) h in
    rw (byte_inside b a, bytes_inside l k) refl

name_inside : (l : List ℕ) → is_word l ≡ true → AreInside l
name_inside [] h = refl
name_inside (b ∷ l) h =
    let (a, k) = and_parts (is_ascii_alphabetic b) (list_all goes_on_name l) h in
    rw (letter_inside b a, bytes_inside l k) refl

-- ---- the line

canon_line : (i : Form) → IsInsn i → IsLineOf (canon i) (says.code i)
unfolding canon
canon_line i h =
    let (few, fine) = and_parts (nat_le (length (words_of i)) 8) (list_all is_fine (words_of i)) (words_fine i) in
    let most : length (words_of i) ≤ 8 = grind (arith, nat_tests) in
    record {
      short = omega (
        arith,
        name_of-short (mnemonic_of i),
        behind_short (words_of i),
        length-append (name_of (mnemonic_of i)) (behind_name (words_of i)),
      );
      inside =
          inside-append (name_of (mnemonic_of i)) (behind_name (words_of i))
          (name_inside (name_of (mnemonic_of i)) (name_of-word (mnemonic_of i))) (behind_inside (words_of i) fine);
      says = reads_back i h;
    }

pub code_say : (level : Level) (words : List ℕ) → All (IsCodeWord level) words
    → AreLinesOf (map code_line words) (map says.code (filter_map decoded words))
code_say level [] h = tt
code_say level (w ∷ ws) h =
    let (i, e, within) = IsCodeWord-one_insn level w (h 0 0 (omega arith)) in
    rw e
    (canon_line i (IsInsn-Row w i (Row-decoded w i e)), code_say level ws (λ k d l. h (suc k) d (omega (arith, l))))
