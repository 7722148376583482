-- Words ask for a command exactly where the rows of this command alone say so.
use Rattle.std.proofs.Common.{◌≡◌, ◌↔◌, ◌∙◌, Bool, true, false, cond, if◌then◌else◌, List, [], ◌∷◌, Option, Some, None}
use Rattle.std.proofs.Common.{codes, refl, sym, ap, subst}
use Rattle.std.specs.Option.{option_and_then, option_map}
use Rattle.std.specs.Str.{bytes_eq}
use Rattle.std.proofs.lemmas.Slice.Eq.{bytes_eq-Decides}
use Rattle.clap.specs.Walk.{Row, Text}
use Rattle.clap.specs.Words.{first_of}
use Rattle.alpha_request.specs.declared.request.ImageCommand.TheVariants as images
use Rattle.alpha_request.specs.declared.request.SourceCommand.TheVariants as sources
use Rattle.alpha_request.specs.declared.name.Name.{Name}
use Rattle.alpha_request.specs.declared.name.Name.TheVariants as names
use Rattle.alpha_request.specs.Command.{Command, of_image, make, link, replay, record_run, run, imprecise, trial}
use Rattle.alpha_request.specs.Options.{options_in, choices_in, force_in, bounds_in}
use Rattle.alpha_request.specs.Commands.{spoken}
use Rattle.alpha_request.specs.Commands.Link.{entry_in, files_in}
use Rattle.alpha_request.specs.Commands.Run.{has_choices, imprecise_in, is_imprecise, plain_in}
use Rattle.alpha_request.specs.Commands.Trial.{blocks_in}
use Rattle.alpha_request.specs.Asked.{app_of_name, asked, asked_as, command_in, name_of}
use Rattle.alpha_request.specs.Matched.{matches_on}
use Rattle.alpha_request.specs.Named.{word_of, name_in}
use Rattle.alpha_request.specs.AsksBy.{AsksBy}
use Rattle.alpha_request.proofs.ClapAnswers.{asked-named}

-- ---- a command that matches make has their name

IsCommandOf : Name → Option Command → Type 0
IsCommandOf n o = (c : Command) → o ≡ Some c → name_in c ≡ n

map_of : {A : Type 0} (f : A → Command) (n : Name) → ((x : A) → name_in (f x) ≡ n) → (o : Option A)
    → IsCommandOf n (option_map f o)
unfolding IsCommandOf
map_of f n same None = λ c e. cc
map_of f n same (Some x) = λ c e. let s : f x ≡ c = cc in subst (λ m. name_in m ≡ n) s (same x)

then_of : {A : Type 0} (f : A → Option Command) (n : Name) → ((x : A) → IsCommandOf n (f x)) → (o : Option A)
    → IsCommandOf n (option_and_then f o)
unfolding IsCommandOf
then_of f n same None = λ c e. cc
then_of f n same (Some x) = same x

none_of : (n : Name) → IsCommandOf n None
unfolding IsCommandOf
none_of n = λ c e. cc

run_of : (late chosen : Bool) (rows : List Row)
    → IsCommandOf names.Run (if late then imprecise_in rows else if chosen then None else plain_in rows)
run_of true chosen rows =
    then_of _ names.Run
    (λ options. then_of _ names.Run
    (λ choices.
    map_of (imprecise options choices (force_in rows)) names.Run (λ file. refl) (first_of (codes "file") rows))
    (choices_in rows))
    (options_in rows)
run_of false true rows = none_of names.Run
run_of false false rows =
    then_of (λ options. option_map (run options) (first_of (codes "file") rows)) names.Run
    (λ options. map_of (run options) names.Run (λ file. refl) (first_of (codes "file") rows)) (options_in rows)

made_of : (n : Name) (rows : List Row) → IsCommandOf n (command_in n rows)
made_of (names.OfImage what) rows =
    map_of (of_image what) (names.OfImage what) (λ file. refl) (first_of (codes "file") rows)
made_of (names.Make what) rows =
    then_of _ (names.Make what)
    (λ file. map_of (make what file) (names.Make what) (λ out. refl) (first_of (codes "out") rows))
    (first_of (codes "file") rows)
made_of names.Link rows =
    then_of _ names.Link (λ out. map_of (link (entry_in rows) out) names.Link (λ files. refl) (files_in rows))
    (first_of (codes "out") rows)
made_of names.Replay rows =
    then_of _ names.Replay
    (λ file. map_of (replay file) names.Replay (λ journal. refl) (first_of (codes "journal") rows))
    (first_of (codes "file") rows)
made_of names.Record rows =
    then_of _ names.Record
    (λ options. then_of _ names.Record
    (λ choices. then_of _ names.Record
    (λ file.
    map_of (record_run options choices (force_in rows) file) names.Record (λ out. refl) (first_of (codes "out") rows))
    (first_of (codes "file") rows))
    (choices_in rows))
    (bounds_in false rows)
made_of names.Run rows = run_of (is_imprecise rows) (has_choices rows) rows
made_of names.Trial rows = map_of trial names.Trial (λ n. refl) (blocks_in rows)

-- ---- the name that a word is

word_of-next_row : (word : Text) (m n : Name) (rest : Option Name) (b : Bool) → bytes_eq word (word_of m) ≡ b
    → (rest ≡ Some n → word ≡ word_of n)
    → cond b (Some m) rest ≡ Some n → word ≡ word_of n
word_of-next_row word m n rest true is k e =
    let same : m ≡ n = cc in
    (bytes_eq-Decides word (word_of m)).0 is ∙ ap word_of same
word_of-next_row word m n rest false is k e = k e

named_text : (word : Text) (n : Name) → name_of word ≡ Some n → word ≡ word_of n
named_text word n =
    word_of-next_row word (names.OfImage images.Check) n _ (bytes_eq word (codes "check")) refl
    (word_of-next_row word (names.OfImage images.Dis) n _ (bytes_eq word (codes "dis")) refl
    (word_of-next_row word (names.Make sources.Asm) n _ (bytes_eq word (codes "asm")) refl
    (word_of-next_row word (names.Make sources.Fix) n _ (bytes_eq word (codes "fix")) refl
    (word_of-next_row word (names.Make sources.Module) n _ (bytes_eq word (codes "module")) refl
    (word_of-next_row word names.Link n _ (bytes_eq word (codes "link")) refl
    (word_of-next_row word names.Replay n _ (bytes_eq word (codes "replay")) refl
    (word_of-next_row word names.Record n _ (bytes_eq word (codes "record")) refl
    (word_of-next_row word names.Run n _ (bytes_eq word (codes "run")) refl
    (word_of-next_row word (names.OfImage images.Debug) n _ (bytes_eq word (codes "debug")) refl
    (word_of-next_row word names.Trial n _ (bytes_eq word (codes "trial")) refl
    (λ e. cc)))))))))))

text_named : (n : Name) → name_of (word_of n) ≡ Some n
text_named (names.OfImage images.Check) = refl
text_named (names.Make sources.Asm) = refl
text_named n = refl

-- ---- both ways

AskedBy : List Text → Command → Type 0
AskedBy words c = AsksBy (word_of (name_in c)) (spoken (name_in c)) c words

by_rows : (words rest : List Text) (word : Text) (n : Name) (c : Command) (rows : Option (List Row))
    → words ≡ word ∷ rest → word ≡ word_of n
    → matches_on (app_of_name n) words ≡ rows → option_and_then (command_in n) rows ≡ Some c → AskedBy words c
unfolding AskedBy IsCommandOf
by_rows words rest word n c None first named is e = cc
by_rows words rest word n c (Some rows) first named is e =
    subst (λ m. AsksBy (word_of m) (spoken m) c words) (sym (of c e))
    (record { rest = rest; named = first ∙ ap (λ x. x ∷ rest) named; rows = rows; matches = is; makes = e })
  where
    of : IsCommandOf n (command_in n rows)
    of = made_of n rows

by_name : (rest : List Text) (word : Text) (c : Command) (o : Option Name) → name_of word ≡ o
    → option_and_then (λ n. asked_as n (word ∷ rest)) o ≡ Some c → AskedBy (word ∷ rest) c
unfolding asked_as
by_name rest word c None is e = cc
by_name rest word c (Some n) is e =
    by_rows (word ∷ rest) rest word n c (matches_on (app_of_name n) (word ∷ rest)) refl (named_text word n is) refl e

asked_by : (words : List Text) (c : Command) → asked words ≡ Some c → AskedBy words c
asked_by [] c e = cc
asked_by (word ∷ rest) c e = by_name rest word c (name_of word) refl e

by_asked : (words : List Text) (c : Command) → AskedBy words c → asked words ≡ Some c
unfolding AskedBy
by_asked words c h =
    let n = name_in c in
    asked-named words (word_of n) h.rest n h.named (text_named n)
    ∙ (ap (option_and_then (command_in n)) h.matches ∙ h.makes)

pub asked-AsksBy_iff : (words : List Text) (c : Command)
    → (asked words ≡ Some c) ↔ AsksBy (word_of (name_in c)) (spoken (name_in c)) c words
unfolding AskedBy
asked-AsksBy_iff words c = (asked_by words c, by_asked words c)

-- each way of it
pub asked-AsksBy : (words : List Text) (c : Command) → asked words ≡ Some c
    → AsksBy (word_of (name_in c)) (spoken (name_in c)) c words
asked-AsksBy words c = (asked-AsksBy_iff words c).0

pub asked_rows : (words : List Text) (c : Command) → AsksBy (word_of (name_in c)) (spoken (name_in c)) c words
    → asked words ≡ Some c
asked_rows words c = (asked-AsksBy_iff words c).1
