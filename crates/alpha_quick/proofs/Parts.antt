-- A line says what its parts say.
use Rattle.std.proofs.Common.{◌≡◌, ℕ, List, [], ◌∷◌, ◌++◌, true, false, eqb, Option, None, Some, is_some, Ok, refl, sym}
use Rattle.std.proofs.Common.{◌∙◌, ap, arith}
use Rattle.std.specs.List.{list_all}
use Rattle.std.specs.Option.{option_map}
use Rattle.std.proofs.lemmas.Bool.Decides.{nat_tests}
use Rattle.std.proofs.lemmas.Bool.{and_parts}
use Rattle.alpha_token.specs.declared.token.TokenKind.TheVariants as kinds
use Rattle.alpha_token.specs.Bytes.{begins_label, goes_on_label, is_label, begins_name, goes_on_name}
use Rattle.alpha_token.specs.Tokens.{Next, tokens}
use Rattle.alpha_text.specs.Heads.{head_name}
use Rattle.alpha_text.specs.Statements.{Stmt}
use Rattle.alpha_text.specs.SuffixWords.{BeginsWithout}
use Rattle.alpha_text.specs.Reading.{statement_of, line_of}
use Rattle.alpha_text.proofs.SuffixReading.{statement_says, line_says}
use Rattle.alpha_text.proofs.CanonicalTokens.{token-begun}
use Rattle.alpha_quick.specs.Parts.{SaysNamed}
use Rattle.alpha_quick.specs.InsnPrefix.{HasStatement}
use Rattle.alpha_quick.specs.Unparsed.{IsAfterLabel}

-- what goes on a label goes on a name
pub label_goes_on : (s : List ℕ) → list_all goes_on_label s ≡ true → list_all goes_on_name s ≡ true
label_goes_on [] h = refl
label_goes_on (b ∷ s) h =
    let (here, more) = and_parts (goes_on_label b) (list_all goes_on_label s) h in
    rw (here, label_goes_on s more) refl

letter_begins : (b : ℕ) → begins_label b ≡ true → (begins_name b ≡ true) × (eqb b 46 ≡ false)
letter_begins b h = (rw h refl, grind (arith, nat_tests))

-- a label before what ends it
pub label_tokens : (label s : List ℕ) → is_label label ≡ true → BeginsWithout goes_on_name s
    → tokens (label ++ s) ≡ Next (record { kind = kinds.Name; text = label; rest = s }) (tokens s)
label_tokens [] s h stop = cc
label_tokens (b ∷ ds) s h stop =
    let (first, others) = and_parts (begins_label b) (list_all goes_on_label ds) h in
    let (begins, plain) = letter_begins b first in
    token-begun b ds s begins plain (label_goes_on ds others) stop

-- a line that begins with a label
label_says : (label rest : List ℕ) (s : Stmt) → is_label label ≡ true → statement_of (tokens rest) ≡ Ok s
    → line_of (tokens (label ++ (58 ∷ rest))) ≡ Ok (record { label = Some label; statement = s })
label_says label rest s is h = rw (label_tokens label (58 ∷ rest) is refl, is, h) refl

-- a line has the statement that stands behind its label
pub IsAfterLabel-says : (line text : List ℕ) (label : Option (List ℕ)) (s : Stmt) → IsAfterLabel line label text
    → HasStatement text s → line_of (tokens line) ≡ Ok (record { label = label; statement = s })
IsAfterLabel-says line text None s same has = ap line_of same ∙ has.1
IsAfterLabel-says line text (Some label) s (rest, is, same, after) has =
    ap line_of same ∙ label_says label rest s is (ap statement_of after ∙ has.0)

-- what stands behind a label of a text stands behind that of a line that says the same
pub IsAfterLabel-same : (line text : List ℕ) (label : Option (List ℕ)) (rest : List ℕ) → tokens line ≡ tokens text
    → IsAfterLabel text label rest → IsAfterLabel line label rest
IsAfterLabel-same line text None rest same h = same ∙ h
IsAfterLabel-same line text (Some label) rest same (after, is, front, behind) = (after, is, same ∙ front, behind)

-- a line has the statement of a text that says the same
pub HasStatement-same : (line text : List ℕ) → tokens line ≡ tokens text → (s : Stmt) → HasStatement text s
    → HasStatement line s
HasStatement-same line text same s (statement, whole) = (ap statement_of same ∙ statement, ap line_of same ∙ whole)

-- a line without a label
pub bare_line : {A : Type 0} (now : A → List ℕ) (line text : List ℕ) (label : Option A) → is_some label ≡ false
    → IsAfterLabel line (option_map now label) text → tokens line ≡ tokens text
bare_line now line text None bare h = h
bare_line now line text (Some label) bare h = absurd cc

-- a line that begins with a name of the tables
pub line_of-named : (line name after : List ℕ) (s : Stmt) → tokens line ≡ tokens (name ++ after)
    → SaysNamed name after s → HasStatement line s
line_of-named line name after s e (head, is, apart, says) =
    let same : tokens line ≡ tokens (head_name head ++ after) = e ∙ ap (λ n. tokens (n ++ after)) (sym is) in (
      ap statement_of same ∙ statement_says head after s apart says,
      ap line_of same ∙ line_says head after s apart says,
    )
