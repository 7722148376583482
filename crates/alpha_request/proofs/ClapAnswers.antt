-- From what clap answers to what the words ask for.
use Rattle.std.proofs.Common.{◌≡◌, true, List, [], ◌∷◌, map, String, Global, string_bytes, Option, Some, None}
use Rattle.std.proofs.Common.{slice_get, drop, Err, refl, sym, ap, ◌∙◌, subst, ⊎_elim}
use Rattle.std.specs.Option.{option_and_then}
use Rattle.std.proofs.lemmas.Bool.{and_parts}
use Rattle.clap.specs.Walk.{Row, Text, rows_of}
use Rattle.clap.specs.Simple.{App, HasMatchesOf, built, is_simple, matches_of}
use Rattle.clap.specs.Faults.{fault_of, is_free_app, is_simple_and_free}
use Rattle.clap.specs.Kinds.{Kinds, HasKind, IsAmong}
use Rattle.clap.specs.Values.{kind_of}
use Rattle.clap.specs.Matches.{found_of}
use Rattle.clap.specs.declared.error.Error.{Error}
use Rattle.clap.specs.declared.error.kind.ErrorKind.{ErrorKind}
use Rattle.clap.specs.declared.error.kind.ErrorKind.TheVariants as kind
use Rattle.clap.specs.declared.parser.matches.ArgMatches.{ArgMatches}
use Rattle.clap.proofs.OnLiterals.{clap_on_literals}
use Rattle.alpha_request.specs.declared.name.Name.{Name}
use Rattle.alpha_request.specs.declared.name.Name.TheVariants as names
use Rattle.alpha_request.specs.declared.request.Refusal.{Refusal}
use Rattle.alpha_request.specs.declared.request.Refusal.TheVariants.{BadWords, NoMemory}
use Rattle.alpha_request.specs.Command.{Command}
use Rattle.alpha_request.specs.Asked.{app_of_name, asked, asked_as, command_in, name_of}
use Rattle.alpha_request.specs.Matched.{matches_on, unless_faulty}
use Rattle.alpha_request.specs.Reading.{Matches, Reads}

-- each command is simple, and no argument has a rule on another
pub simple_and_free : (name : Name) → is_simple_and_free (app_of_name name) ≡ true
unfolding clap_on_literals
simple_and_free (names.OfImage what) = refl
simple_and_free name = refl

is_simple-app : (name : Name) → is_simple (app_of_name name) ≡ true
is_simple-app name =
    (and_parts (is_simple (app_of_name name)) (is_free_app (built (app_of_name name))) (simple_and_free name)).0

unless_faulty-none : (kinds : Kinds) (rows : List Row) → kinds ≡ [] → unless_faulty kinds rows ≡ Some rows
unless_faulty-none [] rows none = refl
unless_faulty-none (k ∷ ks) rows none = cc

unless_faulty-some : (kinds : Kinds) (rows : List Row) (k : ErrorKind) → IsAmong k kinds
    → unless_faulty kinds rows ≡ None
unless_faulty-some [] rows k among = absurd among
unless_faulty-some (x ∷ xs) rows k among = refl

-- where clap finds no fault, its matches are those of the definition
pub matches_on-found : (own : App) (name : Name) (words : List Text) (m : ArgMatches) → own ≡ app_of_name name
    → (is_simple_and_free own ≡ true → fault_of own words ≡ []) → HasMatchesOf own words m
    → matches_on (app_of_name name) words ≡ Some (rows_of (found_of m))
unfolding matches_on
matches_on-found own name words m same none has =
    let app = app_of_name name in
    let clean : fault_of app words ≡ [] =
    ap (λ a. fault_of a words) (sym same) ∙ none (ap is_simple_and_free same ∙ simple_and_free name) in
    let rows : rows_of (found_of m) ≡ matches_of app words =
    (has (ap is_simple same ∙ is_simple-app name)).0 ∙ ap (λ a. matches_of a words) same in
    unless_faulty-none (fault_of app words) (matches_of app words) clean ∙ ap Some (sym rows)

none_on : (app : App) (words : List Text) (e : Error) → (kind_of e ≡ kind.OutOfMemory → ⊥)
    → HasKind (fault_of app words) e → matches_on app words ≡ None
unfolding matches_on
none_on app words e other has =
    ⊎_elim (λ (m : kind_of e ≡ kind.OutOfMemory). absurd (other m))
    (λ among. unless_faulty-some (fault_of app words) (matches_of app words) (kind_of e) among) has

-- where it answers an error but for want of memory, there are none
pub matches_on-refused : (own : App) (name : Name) (words : List Text) (e : Error) (refusal : Refusal)
    → own ≡ app_of_name name
    → (is_simple_and_free own ≡ true → HasKind (fault_of own words) e)
    → (refusal ≡ BadWords → kind_of e ≡ kind.OutOfMemory → ⊥)
    → Matches (matches_on (app_of_name name) words) (Err refusal)
matches_on-refused own name words e NoMemory same has other = tt
matches_on-refused own name words e BadWords same has other =
    none_on (app_of_name name) words e (other refl)
    (subst (λ a. HasKind (fault_of a words) e) same (has (ap is_simple_and_free same ∙ simple_and_free name)))

-- words by their first one
pub string_bytes-first_word : (words : List (String Global)) (first : String Global) → Some first ≡ slice_get words 0
    → map (λ word. string_bytes word) words ≡ string_bytes first ∷ map (λ word. string_bytes word) (drop 1 words)
string_bytes-first_word [] first e = cc
string_bytes-first_word (w ∷ ws) first e =
    let same : first ≡ w = cc in
    ap (λ x. string_bytes x ∷ map (λ word. string_bytes word) ws) (sym same)

-- words whose first one names a command
pub asked-named : (words : List Text) (first : Text) (rest : List Text) (name : Name) → words ≡ first ∷ rest
    → name_of first ≡ Some name
    → asked words ≡ option_and_then (command_in name) (matches_on (app_of_name name) words)
unfolding asked_as
asked-named words first rest name e named =
    ap asked e
    ∙ (ap (option_and_then (λ n. asked_as n (first ∷ rest))) named
    ∙ ap (λ ws. option_and_then (command_in name) (matches_on (app_of_name name) ws)) (sym e))

-- a refusal of the matches is one of the words
pub Reads-refused : (command : Option Command) (name : Name) (rows : Option (List Row)) (refusal : Refusal)
    → command ≡ option_and_then (command_in name) rows
    → Matches rows (Err refusal) → Reads command (Err refusal)
Reads-refused command name rows BadWords e none = e ∙ ap (option_and_then (command_in name)) none
Reads-refused command name rows NoMemory e none = tt
