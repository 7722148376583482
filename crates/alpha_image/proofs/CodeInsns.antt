-- The instructions of code words, and the words of instructions.
use Rattle.std.proofs.Common.{◌≡◌, ℕ, ◌+◌, ◌^◌, ◌<◌, ◌++◌, List, [], ◌∷◌, length, map, take, get_or, slice_get, Option}
use Rattle.std.proofs.Common.{Some, None, refl, sym, ap, subst, ◌∙◌}
use Rattle.std.specs.List.{All}
use Rattle.std.specs.Option.{option_map, IsSomeAnd}
use Rattle.std.proofs.lemmas.List.{take_more, map-append}
use Rattle.std.proofs.lemmas.List.Elements.{All-nil, All-cons, All-head, All-tail}
use Rattle.std.proofs.lemmas.Option.{slice_get-map, get_or_from_slice_get}
use Rattle.alpha_words.specs.declared.Level.{Level}
use Rattle.alpha_table.specs.declared.form.Form.{Form}
use Rattle.alpha_table.specs.Row.{IsInsn}
use Rattle.alpha_table.specs.Decoded.{decoded}
use Rattle.alpha_table.specs.Encoded.{encoded}
use Rattle.alpha_table.specs.Columns.{level_of}
use Rattle.alpha_table.proofs.DecodedInsns.{decoded-Row, Row-decoded, Row-injective, IsInsn-Row}
use Rattle.alpha_table.proofs.InsnWords.{encoded-Row}
use Rattle.alpha_table.proofs.Levels.{level_in-decoded}
use Rattle.alpha_image.specs.Parts.{IsWithin, IsCodeWord}
use Rattle.alpha_image.specs.Insns.{IsCodeInsn}

-- the word of an instruction stands for it
pub decoded-encoded : (i : Form) → IsInsn i → decoded (encoded i) ≡ Some i
decoded-encoded i good = decoded-Row (encoded i) i (encoded-Row i good).1

-- and a word of 32 bits is that of its instruction
encoded-decoded : (w : ℕ) (i : Form) → w < 2 ^ 32 → decoded w ≡ Some i → w ≡ encoded i
encoded-decoded w i small e =
    let row = Row-decoded w i e in
    let own = encoded-Row i (IsInsn-Row w i row) in
    Row-injective w (encoded i) i small own.0 row own.1

-- code words are those of their instructions
pub words_of_insns : (level : Level) (words : List ℕ) (insns : List Form) → All (IsCodeWord level) words
    → map decoded words ≡ map Some insns → words ≡ map encoded insns
words_of_insns level [] [] all e = refl
words_of_insns level [] (i ∷ insns) all e = absurd cc
words_of_insns level (w ∷ words) [] all e = absurd cc
words_of_insns level (w ∷ words) (i ∷ insns) all e =
    let here : decoded w ≡ Some i = cc in
    let later : map decoded words ≡ map Some insns = cc in
    ap (λ (v : ℕ). v ∷ words) (encoded-decoded w i (All-head (IsCodeWord level) w words all).0 here)
    ∙ ap (λ (ws : List ℕ). encoded i ∷ ws)
    (words_of_insns level words insns (All-tail (IsCodeWord level) w words all) later)

-- one word more
pub decoded-next_word : (words : List ℕ) (insns : List Form) (place : ℕ) (i : Form) → place < length words
    → map decoded (take place words) ≡ map Some insns → decoded (get_or words place 0) ≡ Some i
    → map decoded (take (place + 1) words) ≡ map Some (insns ++ i ∷ [])
decoded-next_word words insns place i below e here =
    ap (map decoded) (take_more words place 0 below)
    ∙ (map-append decoded (take place words) (get_or words place 0 ∷ [])
    ∙ (ap (λ (os : List (Option Form)). os ++ (decoded (get_or words place 0) ∷ [])) e
    ∙ (ap (λ (o : Option Form). map Some insns ++ (o ∷ [])) here
    ∙ sym (map-append Some insns (i ∷ [])))))

-- the word there is that of the instruction
pub get_or-map_encoded : (insns : List Form) (place : ℕ) (i : Form) → slice_get insns place ≡ Some i
    → get_or (map encoded insns) place 0 ≡ encoded i
get_or-map_encoded insns place i there =
    get_or_from_slice_get (map encoded insns) place (encoded i) 0
    (slice_get-map encoded insns place ∙ ap (option_map encoded) there)

-- instructions of the table at a level have code words of that level
pub IsCodeWord-map_encoded : (level : Level) (insns : List Form) → All (IsCodeInsn level) insns
    → All (IsCodeWord level) (map encoded insns) × (map decoded (map encoded insns) ≡ map Some insns)
IsCodeWord-map_encoded level [] all = (All-nil (IsCodeWord level), refl)
IsCodeWord-map_encoded level (i ∷ insns) all =
    let here = All-head (IsCodeInsn level) i insns all in
    let later = IsCodeWord-map_encoded level insns (All-tail (IsCodeInsn level) i insns all) in
    let own = decoded-encoded i here.0 in
    let word : IsCodeWord level (encoded i) = (
      (encoded-Row i here.0).0,
      (level_in-decoded level (encoded i)).1
          (subst (λ (o : Option Form). IsSomeAnd o (λ j. IsWithin (level_of j) level)) (sym own) here.1),
    ) in (
      All-cons (IsCodeWord level) (encoded i) (map encoded insns) word later.0,
      ap (λ (o : Option Form). o ∷ map decoded (map encoded insns)) own
          ∙ ap (λ (os : List (Option Form)). Some i ∷ os) later.1,
    )
