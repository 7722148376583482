-- An image that holds the bytes that it was read from.
use Rattle.std.proofs.Common.{◌≡◌, ℕ, ◌+◌, ◌*◌, ◌-◌, ◌≤◌, List, length, map, take, drop, Some, None, refl, sym, ap}
use Rattle.std.proofs.Common.{subst, ◌∙◌, arith}
use Rattle.std.proofs.lemmas.List.{length-drop, drop-drop, take_rest}
use Rattle.alpha_table.specs.declared.form.Form.{Form}
use Rattle.alpha_table.specs.Decoded.{decoded}
use Rattle.alpha_table.specs.Encoded.{encoded}
use Rattle.alpha_image.specs.declared.version.Version.{Version}
use Rattle.alpha_image.specs.Numbers.{Numbers}
use Rattle.alpha_image.specs.Reading.{words_of, words_in, data_in, image_header_size, version_of, numbers_of, size_of}
use Rattle.alpha_image.specs.Reading.{numbered_level}
use Rattle.alpha_image.specs.Rules.{FieldsFit}
use Rattle.alpha_image.specs.Parts.{IsImage, numbers}
use Rattle.alpha_image.specs.PartsOf.{HasForm, parts_with, parts_of}
use Rattle.alpha_image.specs.ImageFault.{word_fault}
use Rattle.alpha_image.proofs.LittleEndianNumbers.{IsBytes}
use Rattle.alpha_image.proofs.CodeInsns.{words_of_insns}
use Rattle.alpha_image.proofs.ReadSpelling.{IsImage-first_fault, length-words_in, numbers-parts_with, code_in}
use Rattle.alpha_image.proofs.ReadSpelling.{code_in-cut_behind_header}
use Rattle.alpha_image.proofs.ReadSpelling.{parts_with-cut}

-- what stands behind two sizes is what the bytes end with
data_at_end : (bytes : List ℕ) (size k : ℕ) (rest : List ℕ) → size + k ≤ length bytes
    → rest ≡ drop k (take (length bytes - size) (drop size bytes))
    → drop (length bytes - length rest) bytes ≡ rest
data_at_end bytes size k rest within e =
    let behind : rest ≡ drop (size + k) bytes = e ∙ (ap (drop k) (take_rest bytes size) ∙ drop-drop k size bytes) in
    let length_is : length rest ≡ length bytes - (size + k) = ap length behind ∙ length-drop (size + k) bytes in
    let at : length bytes - length rest ≡ size + k = omega arith in
    ap (λ j. drop j bytes) at ∙ sym behind

-- the words of the code that was cut out of bytes
pub words_cut : (bytes code : List ℕ) → code ≡ code_in bytes → words_of code ≡ words_in bytes
unfolding words_in
words_cut bytes code e = ap words_of e

-- an image by these instructions and by the bytes from a place on
pub record OfFile (bytes : List ℕ) (at : ℕ) (v : Version) (n : Numbers) (read : List Form) : Type 0 where
  pub good : IsImage (parts_with v n (map encoded read) (drop at bytes))
  pub parts : parts_with v n (map encoded read) (drop at bytes) ≡ parts_of bytes
  pub numbers : numbers (parts_with v n (map encoded read) (drop at bytes)) ≡ n
  pub insns : map decoded (map encoded read) ≡ map Some read

-- Bytes that are an image but for the words of their code are cut behind their front: the first part has the words, and
-- with these in the instruction table, and their instructions, the bytes are that image's.
module _ (bytes : List ℕ) (size : ℕ) (v : Version) (n : Numbers) (code rest : List ℕ) (fits : IsBytes bytes)
    (form : HasForm bytes) (es : size ≡ image_header_size v n)
    (ev : v ≡ version_of bytes) (en : n ≡ numbers_of bytes)
    (front : code ≡ take (4 * n.words) (take (length bytes - size) (drop size bytes)))
    (back : rest ≡ drop (4 * n.words) (take (length bytes - size) (drop size bytes))) where
  pub code_cut : code ≡ code_in bytes
  code_cut = (code_in-cut_behind_header bytes size v n (4 * n.words) code rest es ev en refl front back).0

  data_cut : (at : ℕ) → at ≡ length bytes - length rest → drop at bytes ≡ data_in bytes
  data_cut at e =
      let whole : length bytes ≡ size_of v n = form.size
      ∙ (ap (λ (w : Version). size_of w (numbers_of bytes)) (sym ev) ∙ ap (λ (m : Numbers). size_of v m) (sym en)) in
      ap (λ (j : ℕ). drop j bytes) e
      ∙ (data_at_end bytes size (4 * n.words) rest (omega arith) back
      ∙ (code_in-cut_behind_header bytes size v n (4 * n.words) code rest es ev en refl front back).1)

  pub of_file : (at : ℕ) → at ≡ length bytes - length rest → (insns : List Form)
      → word_fault (numbered_level n.level) (words_of code) ≡ None → map decoded (words_of code) ≡ map Some insns
      → OfFile bytes at v n insns
  of_file at e insns none read =
      let parts = parts_with-cut bytes code (drop at bytes) v n ev en code_cut (data_cut at e) in
      let level : numbered_level n.level ≡ numbered_level (numbers_of bytes).level =
      ap (λ (m : Numbers). numbered_level m.level) en in
      let whole = IsImage-first_fault bytes fits form (ap (λ l. word_fault l (words_in bytes)) (sym level)
      ∙ (ap (word_fault (numbered_level n.level)) (sym (words_cut bytes code code_cut)) ∙ none)) in
      let good : IsImage (parts_with v n (words_of code) (drop at bytes)) = subst IsImage (sym parts) whole in
      let words = words_of_insns (numbered_level n.level) (words_of code) insns good.words read in
      let size : length (map encoded insns) ≡ n.words = ap length (sym words ∙ words_cut bytes code code_cut)
      ∙ (length-words_in bytes form ∙ ap (λ (m : Numbers). m.words) (sym en)) in
      record {
        good = subst (λ (ws : List ℕ). IsImage (parts_with v n ws (drop at bytes))) words good;
        parts = ap (λ (ws : List ℕ). parts_with v n ws (drop at bytes)) (sym words) ∙ parts;
        numbers =
            numbers-parts_with v n (map encoded insns) (drop at bytes) (subst FieldsFit (sym en) form.fields) size;
        insns = subst (λ (ws : List ℕ). map decoded ws ≡ map Some insns) words read;
      }
