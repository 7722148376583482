-- A program is that of one image.
use Rattle.std.proofs.Common.{◌≡◌, ℕ, suc, List, [], ◌∷◌, All, Some, Ok, refl, sym, ◌∙◌, ap, arith}
use Rattle.std.specs.List.{filter_map}
use Rattle.alpha_words.specs.declared.Level.{Level}
use Rattle.alpha_table.specs.declared.form.Form.{Form}
use Rattle.alpha_table.specs.Decoded.{decoded}
use Rattle.alpha_table.proofs.DecodedInsns.{Row-decoded, Row-injective}
use Rattle.alpha_image.specs.Parts.{Parts, IsCodeWord, IsImage}
use Rattle.alpha_asm.specs.Program.{Program, program_of}
use Rattle.alpha_asm.specs.Assembled.{assembled}
use Rattle.alpha_dis.specs.Listing.{listing}
use Rattle.alpha_round.specs.Source.{IsSourceOf}
use Rattle.alpha_round.proofs.ItemsOfListing.{IsCodeWord-one_insn}
use Rattle.alpha_round.proofs.ListingRoundTrip.{assembled-listing}

-- code words of the same instructions are the same
words_same : (level other : Level) (vs ws : List ℕ) → All (IsCodeWord level) vs → All (IsCodeWord other) ws
    → filter_map decoded vs ≡ filter_map decoded ws → vs ≡ ws
words_same level other [] [] g h e = refl
words_same level other [] (w ∷ ws) g h e =
    let (j, f, y) = IsCodeWord-one_insn other w (h 0 0 (omega arith)) in
    let no : (let none : List Form = [] in none) ≡ j ∷ filter_map decoded ws = rw f at e in
    cc
words_same level other (v ∷ vs) [] g h e =
    let (i, d, x) = IsCodeWord-one_insn level v (g 0 0 (omega arith)) in
    let no : i ∷ filter_map decoded vs ≡ [] = rw d at e in
    cc
words_same level other (v ∷ vs) (w ∷ ws) g h e =
    let (i, d, x) = IsCodeWord-one_insn level v (g 0 0 (omega arith)) in
    let (j, f, y) = IsCodeWord-one_insn other w (h 0 0 (omega arith)) in
    let both : i ∷ filter_map decoded vs ≡ j ∷ filter_map decoded ws = rw (d, f) at e in
    let first : i ≡ j = cc both in
    let rest : filter_map decoded vs ≡ filter_map decoded ws = cc both in
    let found : decoded w ≡ Some i = f ∙ ap Some (sym first) in
    let word : v ≡ w =
    Row-injective v w i (g 0 0 (omega arith)).0 (h 0 0 (omega arith)).0 (Row-decoded v i d) (Row-decoded w i found) in
    let more : vs ≡ ws = words_same level other vs ws (λ k n l. g (suc k) n (omega (arith, l)))
    (λ k n l. h (suc k) n (omega (arith, l))) rest in
    cc (word, more)

image_same : (p q : Parts) → IsImage p → IsImage q → program_of p ≡ program_of q → p ≡ q
image_same p q g h e =
    let version = ap (λ (r : Program). r.version) e in
    let level = ap (λ (r : Program). r.level) e in
    let code_base = ap (λ (r : Program). r.code_base) e in
    let entry = ap (λ (r : Program). r.entry) e in
    let stack = ap (λ (r : Program). r.stack) e in
    let segments = ap (λ (r : Program). r.segments) e in
    let bytes = ap (λ (r : Program). r.bytes) e in
    let words : p.words ≡ q.words =
    words_same p.level q.level p.words q.words g.words h.words (ap (λ (r : Program). r.code) e) in
    λ i. record {
      version = version i;
      level = level i;
      code_base = code_base i;
      entry = entry i;
      stack = stack i;
      segments = segments i;
      words = words i;
      bytes = bytes i;
    }

-- a source is one of one image
pub IsSourceOf-unique : (source : List ℕ) (p q : Parts) → IsSourceOf source p → IsSourceOf source q → p ≡ q
IsSourceOf-unique source p q (g, a) (h, b) =
    image_same p q g h (let same : Ok (program_of p) ≡ Ok (program_of q) = sym a ∙ b in cc)

pub IsSourceOf-listing : (p : Parts) → IsImage p → IsSourceOf (listing p) p
IsSourceOf-listing p good = (good, assembled-listing p good)

-- different images have different listings
pub listing-injective : (p q : Parts) → IsImage p → IsImage q → listing p ≡ listing q → p ≡ q
listing-injective p q g h e =
    IsSourceOf-unique (listing q) p q (g, ap assembled (sym e) ∙ assembled-listing p g) (IsSourceOf-listing q h)
