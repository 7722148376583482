-- The code words of a module, both ways.
use Rattle.std.proofs.Common.{◌≡◌, ℕ, ◌*◌, ◌<◌, ◌≤◌, true, false, nat_lt, List, ◌++◌, length, map, take, drop}
use Rattle.std.proofs.Common.{slice_index, Option, None, Some, refl, sym, ap, subst, ◌∙◌, ⊎_elim, arith}
use Rattle.std.specs.Prelude.{Ok, Err, min}
use Rattle.std.specs.List.{flat_map, All}
use Rattle.std.specs.Option.{option_map}
use Rattle.std.proofs.lemmas.Bool.{le-ltb, lt-ltb, cases_lt}
use Rattle.std.proofs.lemmas.List.{length-append, length-take, length-take-le, take_all, take_at, drop_at}
use Rattle.std.proofs.lemmas.List.{take-append-drop}
use Rattle.alpha_words.specs.declared.Level.TheVariants.{One}
use Rattle.alpha_image.specs.Layout.{longword}
use Rattle.alpha_image.specs.Reading.{words_of}
use Rattle.alpha_image.specs.Parts.{IsCodeWord}
use Rattle.alpha_image.specs.declared.fault.ImageFault.{ImageFault}
use Rattle.alpha_image.specs.declared.fault.ImageFault.TheVariants.{Short, BadWord}
use Rattle.alpha_image.specs.ImageFault.{bad_place, word_fault}
use Rattle.alpha_image.specs.Tells.{Refuses}
use Rattle.alpha_image.proofs.CodeInsns.{words_of_insns}
use Rattle.alpha_table.specs.declared.form.Form.{Form}
use Rattle.alpha_table.specs.Decoded.{decoded}
use Rattle.alpha_table.specs.Encoded.{encoded}
use Rattle.alpha_image.proofs.LittleEndianNumbers.{IsBytes, IsBytes-drop, IsBytes-take}
use Rattle.alpha_image.proofs.CodeWords.{length-words_of, All-word_fault, word_fault-All, words_of-lt}
use Rattle.alpha_image.proofs.CodeWords.{words_of-flat_map, flat_map-words_of, length-flat_map_longword}
use Rattle.alpha_image.proofs.CodeWords.{option_map-none}
use Rattle.alpha_link.specs.declared.fault.ModuleFault.TheVariants.{Cut}
use Rattle.alpha_link.specs.Reading.{Read, and_then, taken, IsRefusal}
use Rattle.alpha_link.specs.Spelled.{fault_of_words, unless_bad, words_at}
use Rattle.alpha_link.proofs.ReadingResults.{bind_ok, ok_pair, taken_ok, pair-injective}

no_bad_word : {X : Type 0} (o : Option ℕ) (read : Read X) (y : X × List ℕ) → unless_bad o read ≡ Ok y
    → (o ≡ None) × (read ≡ Ok y)
no_bad_word None read y e = (refl, e)
no_bad_word (Some place) read y e = absurd cc

-- words without a bad one
pub bad_place-none : (bytes : List ℕ) → IsBytes bytes → bad_place One (words_of bytes) ≡ None
    → All (IsCodeWord One) (words_of bytes)
unfolding word_fault
bad_place-none bytes fits e = All-word_fault One (words_of bytes) (words_of-lt bytes fits) (rw e refl)

-- words were read
pub record AreCoded (n : ℕ) (bytes words rest : List ℕ) : Type 0 where
  pub good : All (IsCodeWord One) words
  pub count : length words ≡ n
  pub spelled : bytes ≡ flat_map longword words ++ rest
  pub fits : IsBytes rest

pub words_take : (total n : ℕ) (bytes words rest : List ℕ) → IsBytes bytes → words_at total n bytes ≡ Ok (words, rest)
    → AreCoded n bytes words rest
unfolding words_at
words_take total n bytes words rest fits e =
    let code = take (4 * n) bytes in
    let a = no_bad_word (bad_place One (words_of code))
    (and_then (taken total (4 * n) bytes) (λ (x : List ℕ × List ℕ). Ok (words_of x.0, x.1))) (words, rest) e in
    let b = bind_ok (taken total (4 * n) bytes) (λ (x : List ℕ × List ℕ). Ok (words_of x.0, x.1)) (words, rest) a.1 in
    let c = taken_ok total (4 * n) bytes b.0 b.1 in
    let parts = pair-injective (code, drop (4 * n) bytes) b.0 c.1 in
    let d = ok_pair (words_of b.0.0) words b.0.1 rest b.2 in
    let same : words_of code ≡ words = ap words_of parts.0 ∙ d.0 in
    let behind : drop (4 * n) bytes ≡ rest = parts.1 ∙ d.1 in
    let long : length code ≡ 4 * n = length-take-le (4 * n) bytes c.0 in
    let here : IsBytes code = IsBytes-take (4 * n) bytes fits in
    record {
      good = subst (All (IsCodeWord One)) same (bad_place-none code here a.0);
      count = ap length (sym same) ∙ (length-words_of code ∙ omega arith);
      spelled =
          sym (take-append-drop (4 * n) bytes)
          ∙ (ap (λ (t : List ℕ). t ++ drop (4 * n) bytes) (sym (flat_map-words_of code n long here))
          ∙ (ap (λ (ws : List ℕ). flat_map longword ws ++ drop (4 * n) bytes) same
          ∙ ap (λ (t : List ℕ). flat_map longword words ++ t) behind));
      fits = subst IsBytes behind (IsBytes-drop (4 * n) bytes fits);
    }

no_bad_place : (words : List ℕ) → All (IsCodeWord One) words → bad_place One words ≡ None
unfolding word_fault
no_bad_place words good = option_map-none _ (bad_place One words) (word_fault-All One words good)

pub words_again : (total : ℕ) (words rest : List ℕ) → All (IsCodeWord One) words
    → words_at total (length words) (flat_map longword words ++ rest) ≡ Ok (words, rest)
unfolding words_at
words_again total words rest good =
    let code = flat_map longword words in
    let size : length code ≡ 4 * length words = length-flat_map_longword words in
    let front : take (4 * length words) (code ++ rest) ≡ code = take_at code rest (4 * length words) size in
    let back : drop (4 * length words) (code ++ rest) ≡ rest = drop_at code rest (4 * length words) size in
    let same : words_of code ≡ words = words_of-flat_map One words good in
    let long : nat_lt (length (code ++ rest)) (4 * length words) ≡ false =
    le-ltb _ _ (omega (arith, length-append code rest)) in
    rw (front, same, no_bad_place words good, long, back, same) refl

-- the whole words that a reader was given
pub words_at-whole_words : (n : ℕ) (bytes code : List ℕ) → code ≡ take (min (4 * n) (length bytes)) bytes
    → code ≡ take (4 * n) bytes
words_at-whole_words n bytes code e =
    e ∙ ⊎_elim
    (λ (h : 4 * n < length bytes). ap (λ (k : ℕ). take k bytes) (omega arith))
    (λ (h : length bytes ≤ 4 * n). ap (λ (k : ℕ). take k bytes) (omega arith)
    ∙ (take_all (length bytes) bytes (omega arith) ∙ sym (take_all (4 * n) bytes h)))
    (cases_lt (4 * n) (length bytes))

-- words that aren't whole
pub words_at-cut : (total n : ℕ) (bytes code : List ℕ) → code ≡ take (4 * n) bytes → length code < 4 * n
    → word_fault One (words_of code) ≡ None → words_at total n bytes ≡ Err (Cut total)
unfolding words_at word_fault
words_at-cut total n bytes code e short none =
    let place : bad_place One (words_of (take (4 * n) bytes)) ≡ None =
    ap (λ (t : List ℕ). bad_place One (words_of t)) (sym e) ∙ option_map-none _ (bad_place One (words_of code)) none in
    let cut : nat_lt (length bytes) (4 * n) ≡ true =
    lt-ltb _ _ (omega (arith, ap length e, length-take (4 * n) bytes)) in
    rw (place, cut) refl

-- words that are whole
pub words_at-whole : (total n : ℕ) (bytes code rest : List ℕ) (insns : List Form) → IsBytes bytes
    → code ≡ take (4 * n) bytes → rest ≡ drop (4 * n) bytes → 4 * n ≤ length code
    → word_fault One (words_of code) ≡ None
    → map decoded (words_of code) ≡ map Some insns
    → (words_at total n bytes ≡ Ok (map encoded insns, rest)) × (words_of code ≡ map encoded insns)
unfolding words_at word_fault
words_at-whole total n bytes code rest insns fits e behind long none known =
    let place : bad_place One (words_of (take (4 * n) bytes)) ≡ None =
    ap (λ (t : List ℕ). bad_place One (words_of t)) (sym e) ∙ option_map-none _ (bad_place One (words_of code)) none in
    let whole : nat_lt (length bytes) (4 * n) ≡ false =
    le-ltb _ _ (omega (arith, ap length e, length-take (4 * n) bytes)) in
    let here : IsBytes code = subst IsBytes (sym e) (IsBytes-take (4 * n) bytes fits) in
    let same : words_of code ≡ map encoded insns = words_of_insns One (words_of code) insns
    (bad_place-none code here (option_map-none _ (bad_place One (words_of code)) none)) known in
    (rw (place, whole, ← e, ← behind, same) refl, same)

bad_place_is : (words : List ℕ) (o : Option ℕ) (place word : ℕ)
    → option_map (λ p. BadWord p (slice_index words p)) o ≡ Some (BadWord place word) → o ≡ Some place
bad_place_is words None place word e = absurd cc
bad_place_is words (Some p) place word e = cc

-- a bad word, or want of memory
pub words_at-IsRefusal : (total n : ℕ) (bytes code : List ℕ) (fault : ImageFault) → code ≡ take (4 * n) bytes
    → Refuses fault (word_fault One (words_of code)) → IsRefusal (fault_of_words fault) (words_at total n bytes)
unfolding words_at word_fault
words_at-IsRefusal total n bytes code (BadWord place word) e h =
    let there : bad_place One (words_of (take (4 * n) bytes)) ≡ Some place =
    ap (λ (t : List ℕ). bad_place One (words_of t)) (sym e)
    ∙ bad_place_is (words_of code) (bad_place One (words_of code)) place word h in
    rw there refl
words_at-IsRefusal total n bytes code (Short a) e h = tt
words_at-IsRefusal total n bytes code fault e h = tt
