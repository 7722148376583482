-- The laws of `link`, and what leads to its answers.
use Rattle.std.proofs.Common.{◌≡◌, ◌∙◌, ℕ, List, [], ◌∷◌, ◌++◌, length, map, drop, get_or, suc, Bor, Vec, Global, ◌<◌}
use Rattle.std.proofs.Common.{◌+◌, All, Result, Ok, Err, IsSome, refl, sym, ap, subst, append_assoc, append-nil}
use Rattle.std.proofs.Common.{add-one, ◌≤◌}
use Rattle.std.specs.List.{AllByRecursion}
use Rattle.std.proofs.lemmas.List.{map-append, drop_all}
use Rattle.std.proofs.lemmas.List.Elements.{All-nil, All-cons}
use Rattle.alpha_io.specs.Files.{Files, HasFile, IfTold, KeepsFiles}
use Rattle.alpha_io.specs.History.{Reply, IsReadWhole}
use Rattle.alpha_image.specs.Parts.{Parts, IsImage, IsByte}
use Rattle.alpha_image.specs.Parts as images
use Rattle.alpha_asm.specs.Program.{Program, program_of}
use Rattle.alpha_round.proofs.ListingRoundTrip.{assembled-listing}
use Rattle.alpha_round.proofs.SameImage.{IsSourceOf-unique}
use Rattle.alpha_dis.specs.Listing.{listing}
use Rattle.alpha_link.specs.declared.fault.ModuleFault.{ModuleFault}
use Rattle.alpha_link.specs.declared.fault.LinkFault.{LinkFault}
use Rattle.alpha_link.specs.Parts.{ModuleParts, IsModule}
use Rattle.alpha_link.specs.Spelled.{module_at, spelling}
use Rattle.alpha_link.specs.Linked.{linked}
use Rattle.alpha_link.proofs.LinkedImages.{linked_image}
use Rattle.alpha_link.proofs.ModuleBytes.{bytes_of_all, module_takes, module_again}
use Rattle.alpha_link.proofs.ReadingResults.{gave-injective}
use Rattle.alpha_cmd.specs.declared.status.Status.{Status}
use Rattle.alpha_cmd.specs.declared.status.Status.TheVariants.{BadModule, BadLink}
use Rattle.alpha_cmd.specs.Status.{status_line}
use Rattle.alpha_cmd.specs.Outcome.{continues, stops, Then}
use Rattle.alpha_cmd.specs.Image.{Reads}
use Rattle.alpha_cmd.specs.AnswerBy.{World, HaveBytes}
use Rattle.alpha_cmd.specs.Form.{IsThere}
use Rattle.alpha_cmd.specs.Commands.Link.{module_limit, FilesOf, ModuleOf, ModulesOf, IsLinked, Links, LinksFiles}
use Rattle.alpha_cmd.specs.Commands.Link.{Spell, form, there}
use Rattle.alpha_cmd.proofs.Lawful.{Lawful, HasOutcome, IsRefusal, Faults-lawful, Then-lawful}
use Rattle.alpha_cmd.proofs.ReadEach.{Each-lawful, Each-zip, AreRelatedEach, RestOfReads, drop_at, rest_next}
use Rattle.alpha_cmd.proofs.ReadEach.{rest_stops}
use Rattle.alpha_cmd.proofs.StageLaws.{Reads-lawful, HasFile-IsByte, KeepsFiles-equal}
use Rattle.alpha_cmd.specs.Replied.{IsReadEach}
use Rattle.alpha_cmd.proofs.FormLaws.{IsLawfulForm, making_lawful}

-- ---- a module

one_module : (m n : ModuleParts) → IsModule m → IsModule n → spelling m ≡ spelling n → m ≡ n
one_module m n good other e = gave-injective m n (sym (module_again m good) ∙ (ap module_at e ∙ module_again n other))

module_some : (number : ℕ) (bytes : List ℕ) → All IsByte bytes → (r : Result ModuleParts ModuleFault)
    → module_at bytes ≡ r → HasOutcome (ModuleOf number bytes)
module_some number bytes all (Ok m) e = (continues m, module_takes bytes m (bytes_of_all bytes all) e)
module_some number bytes all (Err fault) e =
    (stops (BadModule number fault) (status_line (BadModule number fault)), ((fault, refl, e), refl))

ModuleOf-lawful : (told whole there : Type 0) (number : ℕ) (bytes : List ℕ) → (whole → All IsByte bytes)
    → Lawful told whole there (ModuleOf number bytes)
ModuleOf-lawful told whole there number bytes all =
    Faults-lawful (λ m. IsModule m × (bytes ≡ spelling m)) (BadModule number) (module_at bytes) Err (λ f g e. cc)
    (λ f. refl)
    (λ a b h g. one_module a b h.0 g.0 (sym h.1 ∙ g.1))
    (λ m f h first. let ok = ap module_at h.1 ∙ module_again m h.0 in cc)
    (λ h. module_some number bytes (all h) (module_at bytes) refl)

-- ---- the image

-- two images are one where their programs are, since the listing of one is a source of both
same_image : (p q : Parts) → IsImage p → IsImage q → program_of p ≡ program_of q → p ≡ q
same_image p q good other e =
    IsSourceOf-unique (listing p) p q (good, assembled-listing p good) (other, assembled-listing p good ∙ ap Ok e)

one_program : (entry : List ℕ) (ms : List ModuleParts) (p q : Program) → linked ms entry ≡ Ok p → linked ms entry ≡ Ok q
    → p ≡ q
one_program entry ms p q h g = cc

same_linked : (entry : List ℕ) (ms : List ModuleParts) (a b : List ℕ) → IsLinked entry ms a → IsLinked entry ms b
    → a ≡ b
same_linked entry ms a b (p, good, (h, s)) (q, other, (g, t)) =
    s
    ∙ (ap images.image_spelling (same_image p q good other (one_program entry ms (program_of p) (program_of q) h g))
    ∙ sym t)

links_some : (entry : List ℕ) (ms : List ModuleParts) → All IsModule ms → (r : Result Program LinkFault)
    → linked ms entry ≡ r → HasOutcome (Links entry ms)
links_some entry ms good (Ok p) e =
    let (image, is, same) = linked_image ms entry p good e in
    (continues (images.image_spelling image), (image, is, (e ∙ ap Ok (sym same), refl)))
links_some entry ms good (Err fault) e = (stops (BadLink fault) (status_line (BadLink fault)), ((fault, refl, e), refl))

Links-lawful : (told whole there : Type 0) (entry : List ℕ) (ms : List ModuleParts) → All IsModule ms
    → Lawful told whole there (Links entry ms)
Links-lawful told whole there entry ms good =
    Faults-lawful (IsLinked entry ms) BadLink (linked ms entry) Err (λ f g e. cc) (λ f. refl) (same_linked entry ms)
    (λ a f h first. let ok = h.2.0 in cc)
    (λ h. links_some entry ms good (linked ms entry) refl)

-- ---- what was read

-- a name has these bytes, and bytes spell this module
abbrev pub NamesModule : Files → List ℕ → List ℕ → Type 0
NamesModule files name bytes = HasFile files name bytes

abbrev pub IsSpelled : List ℕ → ModuleParts → Type 0
IsSpelled bytes m = IsModule m × (bytes ≡ spelling m)

pub files_read : (files : Files) (names all : List (List ℕ)) → FilesOf files names (continues all)
    → AreRelatedEach (NamesModule files) names all
files_read files names all h =
    Each-zip (λ before name. Reads files name module_limit) (NamesModule files)
    (λ before name bytes read. read.0) names all h

pub modules_spelled : (all : List (List ℕ)) (ms : List ModuleParts) → ModulesOf all (continues ms)
    → AreRelatedEach IsSpelled all ms
modules_spelled all ms h =
    Each-zip (λ before bytes. ModuleOf (length before) bytes) IsSpelled (λ before bytes m read. read) all ms h

pub NamesModule-Spell : (files : Files) (names all : List (List ℕ)) (ms : List ModuleParts)
    → AreRelatedEach (NamesModule files) names all
    → AreRelatedEach IsSpelled all ms → Spell files names ms
NamesModule-Spell files [] [] [] h g = tt
NamesModule-Spell files [] [] (m ∷ ms) h g = absurd g
NamesModule-Spell files [] (b ∷ all) ms h g = absurd h
NamesModule-Spell files (n ∷ names) [] ms h g = absurd h
NamesModule-Spell files (n ∷ names) (b ∷ all) [] h g = absurd g
NamesModule-Spell files (n ∷ names) (b ∷ all) (m ∷ ms) h g =
    ((g.0.0, subst (HasFile files n) g.0.1 h.0), NamesModule-Spell files names all ms h.1 g.1)

pub all_modules : (all : List (List ℕ)) (ms : List ModuleParts) → AreRelatedEach IsSpelled all ms → All IsModule ms
all_modules [] [] h = All-nil IsModule
all_modules [] (m ∷ ms) h = absurd h
all_modules (b ∷ all) [] h = absurd h
all_modules (b ∷ all) (m ∷ ms) h = All-cons IsModule m ms h.0.0 (all_modules all ms h.1)

-- ---- the command

-- each of the names is there
each_there : (w : World) (there : Type 0) (names : List (List ℕ))
    → (there → AllByRecursion (λ name. IsThere name w) names)
    → AllByRecursion (λ name. there → IfTold w.files name (λ bytes. Unit {0})) names
each_there w there [] h = tt
each_there w there (n ∷ names) h = ((λ t. (h t).0), each_there w there names (λ t. (h t).1))

files_lawful : (told whole there : Type 0) (files : Files) (names : List (List ℕ)) → (told → IsSome files)
    → (whole → IsSome files)
    → AllByRecursion (λ name. there → IfTold files name (λ bytes. Unit {0})) names
    → AllByRecursion (λ name. (before : List (List ℕ)) → Lawful told whole there (Reads files name module_limit)) names
files_lawful told whole there files [] is_told is_whole has = tt
files_lawful told whole there files (n ∷ names) is_told is_whole has = (
  (λ before. Reads-lawful told whole there files n module_limit is_told is_whole has.0),
  files_lawful told whole there files names is_told is_whole has.1,
)

modules_lawful : (told whole there : Type 0) (files : Files) (names all : List (List ℕ))
    → (whole → IsSome files × HaveBytes files) → AreRelatedEach (NamesModule files) names all
    → AllByRecursion (λ bytes. (before : List ModuleParts) → Lawful told whole there (ModuleOf (length before) bytes))
    all
modules_lawful told whole there files [] [] is_whole read = tt
modules_lawful told whole there files [] (b ∷ all) is_whole read = absurd read
modules_lawful told whole there files (n ∷ names) [] is_whole read = absurd read
modules_lawful told whole there files (n ∷ names) (b ∷ all) is_whole read = (
  (λ before. ModuleOf-lawful told whole there (length before) b
      (λ h. HasFile-IsByte files n b (is_whole h).0 (is_whole h).1 read.0)),
  modules_lawful told whole there files names all is_whole read.1,
)

makes_lawful : (told whole there : Type 0) (files : Files) (entry : List ℕ) (names : List (List ℕ))
    → (told → IsSome files) → (whole → IsSome files × HaveBytes files)
    → AllByRecursion (λ name. there → IfTold files name (λ bytes. Unit {0})) names
    → Lawful told whole there (LinksFiles files entry names)
makes_lawful told whole there files entry names is_told is_whole has =
    Then-lawful {R = FilesOf files names} {S = λ all. Then (ModulesOf all) (Links entry)}
    (Each-lawful (λ before name. Reads files name module_limit) [] names
    (files_lawful told whole there files names is_told (λ h. (is_whole h).0) has))
    (λ all read.
    Then-lawful {R = ModulesOf all} {S = Links entry}
    (Each-lawful (λ before bytes. ModuleOf (length before) bytes) [] all
    (modules_lawful told whole there files names all is_whole (files_read files names all read)))
    (λ ms found. Links-lawful told whole there entry ms (all_modules all ms (modules_spelled all ms found))))

none_there : (files : Files) (names : List (List ℕ))
    → AllByRecursion (λ name. ⊥ → IfTold files name (λ bytes. Unit {0})) names
none_there files [] = tt
none_there files (n ∷ names) = ((λ no. absurd no), none_there files names)

-- it never stops with a device's fault
pub makes_plain : (files : Files) (entry : List ℕ) (names : List (List ℕ)) (s : Status) (line : List ℕ)
    → LinksFiles files entry names (stops s line) → IsRefusal ⊥ s
makes_plain files entry names =
    (makes_lawful ⊥ ⊥ ⊥ files entry names (λ no. absurd no) (λ no. absurd no) (none_there files names)).plain

pub link_form-lawful : (entry out : List ℕ) (names : List (List ℕ)) (w : World)
    → IsLawfulForm (form entry out names) (there entry out names) w
link_form-lawful entry out names w =
    making_lawful names (λ w. LinksFiles w.files entry names) out w
    (makes_lawful _ _ _ w.files entry names (λ h. h) (λ h. h) (each_there w (there entry out names w) names (λ h. h.0)))

-- ---- its answers

-- the files of the names from a place on are read behind those that were
abbrev pub ReadsLeft : List Reply → List Reply → List (Bor (List ℕ)) → List (Vec ℕ Global) → ℕ → Type 0
ReadsLeft old now names all i =
    (new : List Reply) (more : List (List ℕ))
    → IsReadEach now new (map (λ (name : Bor (List ℕ)). name.now) (drop i names)) more
    → IsReadEach old new (map (λ (name : Bor (List ℕ)). name.now) names)
    (map (λ (file : Vec ℕ Global). file.items) all ++ more)

pub reads_next : (old now next : List Reply) (names : List (Bor (List ℕ))) (all after : List (Vec ℕ Global)) (i : ℕ)
    (name : Bor (List ℕ)) (file : Vec ℕ Global)
    → drop i names ≡ name ∷ drop (suc i) names → IsReadWhole now next name.now file.items → after ≡ all ++ file ∷ []
    → ReadsLeft old now names all i
    → ReadsLeft old next names after (i + 1)
reads_next old now next names all after i name file cut read is rest new more h =
    let told = λ (l : List (Bor (List ℕ))). map (λ (n : Bor (List ℕ)). n.now) l in
    let behind : IsReadEach next new (told (drop (suc i) names)) more =
    subst (λ (n : ℕ). IsReadEach next new (told (drop n names)) more) (add-one i) h in
    let from : IsReadEach now new (told (drop i names)) (file.items ∷ more) =
    subst (λ (l : List (Bor (List ℕ))). IsReadEach now new (told l) (file.items ∷ more)) (sym cut)
    (next, read, behind) in
    let so_far = map (λ (f : Vec ℕ Global). f.items) all in
    let same : so_far ++ file.items ∷ more ≡ map (λ (f : Vec ℕ Global). f.items) after ++ more =
    sym (ap (λ l. l ++ more)
    (ap (map (λ (f : Vec ℕ Global). f.items)) is ∙ map-append (λ (f : Vec ℕ Global). f.items) all (file ∷ []))
    ∙ append_assoc so_far (file.items ∷ []) more) in
    subst (λ (l : List (List ℕ)). IsReadEach old new (told names) l) same (rest new (file.items ∷ more) from)

pub ReadsLeft-IsReadEach : (old now : List Reply) (names : List (Bor (List ℕ))) (all : List (Vec ℕ Global)) (i : ℕ)
    → length names ≤ i → ReadsLeft old now names all i
    → IsReadEach old now (map (λ (name : Bor (List ℕ)). name.now) names) (map (λ (file : Vec ℕ Global). file.items) all)
ReadsLeft-IsReadEach old now names all i end rest =
    let told = λ (l : List (Bor (List ℕ))). map (λ (n : Bor (List ℕ)). n.now) l in
    let none : IsReadEach now now (told (drop i names)) [] =
    subst (λ (l : List (Bor (List ℕ))). IsReadEach now now (told l) []) (sym (drop_all i names end)) refl in
    subst (λ (files : List (List ℕ)). IsReadEach old now (told names) files)
    (append-nil (map (λ (file : Vec ℕ Global). file.items) all)) (rest now [] none)

-- the files of the names from a place on, behind those that were read
abbrev pub FilesLeft : Files → List (Bor (List ℕ)) → List (Vec ℕ Global) → ℕ → Type 0
FilesLeft files names all i =
    RestOfReads (λ before name. Reads files name module_limit) (λ (name : Bor (List ℕ)). name.now) names
    (FilesOf files (map (λ name. name.now) names))
    (map (λ file. file.items) all) i

pub files_next : (old middle : Files) (names : List (Bor (List ℕ))) (all after : List (Vec ℕ Global)) (i : ℕ)
    (name : Bor (List ℕ)) (file : Vec ℕ Global)
    → drop i names ≡ name ∷ drop (suc i) names → KeepsFiles old middle
    → Reads middle name.now module_limit (continues file.items) → after ≡ all ++ file ∷ []
    → FilesLeft old names all i → FilesLeft old names after (i + 1)
files_next old middle names all after i name file cut kept read is rest =
    let found =
    subst (λ f. Reads f name.now module_limit (continues file.items)) (KeepsFiles-equal old middle kept) read in
    let more =
    ap (map (λ (f : Vec ℕ Global). f.items)) is ∙ map-append (λ (f : Vec ℕ Global). f.items) all (file ∷ []) in
    rest_next (λ before name. Reads old name module_limit) (λ (n : Bor (List ℕ)). n.now) names
    (FilesOf old (map (λ n. n.now) names))
    (map (λ f. f.items) all) (map (λ f. f.items) after) i name file.items cut found more rest

pub files_stop : (old middle : Files) (names : List (Bor (List ℕ))) (all : List (Vec ℕ Global)) (i : ℕ)
    (name : Bor (List ℕ)) (s : Status) (line : List ℕ)
    → drop i names ≡ name ∷ drop (suc i) names → KeepsFiles old middle
    → Reads middle name.now module_limit (stops s line) → FilesLeft old names all i
    → FilesOf old (map (λ name. name.now) names) (stops s line)
files_stop old middle names all i name s line cut kept read rest =
    rest_stops (λ before name. Reads old name module_limit) (λ (n : Bor (List ℕ)). n.now) names
    (FilesOf old (map (λ n. n.now) names)) (map (λ f. f.items) all) i name s line cut
    (subst (λ f. Reads f name.now module_limit (stops s line)) (KeepsFiles-equal old middle kept) read) rest

-- the modules of the files from a place on, behind those that were read
abbrev pub ModulesLeft : List (Vec ℕ Global) → List ModuleParts → ℕ → Type 0
ModulesLeft files all i =
    RestOfReads (λ before bytes. ModuleOf (length before) bytes) (λ (file : Vec ℕ Global). file.items) files
    (ModulesOf (map (λ file. file.items) files)) all i

pub modules_next : (files : List (Vec ℕ Global)) (all after : List ModuleParts)
    (i : ℕ) (file : Vec ℕ Global) (m : ModuleParts)
    → i < length files → file ≡ get_or files i file
    → length all ≡ i → ModuleOf i file.items (continues m) → after ≡ all ++ m ∷ [] → ModulesLeft files all i
    → ModulesLeft files after (i + 1)
modules_next files all after i file m within at count found is rest =
    rest_next (λ before bytes. ModuleOf (length before) bytes) (λ (f : Vec ℕ Global). f.items) files
    (ModulesOf (map (λ f. f.items) files)) all after i file m
    (drop_at files i file within at) (subst (λ n. ModuleOf n file.items (continues m)) (sym count) found) is rest

pub modules_stop : (files : List (Vec ℕ Global)) (all : List ModuleParts)
    (i : ℕ) (file : Vec ℕ Global) (s : Status) (line : List ℕ)
    → i < length files → file ≡ get_or files i file
    → length all ≡ i → ModuleOf i file.items (stops s line) → ModulesLeft files all i
    → ModulesOf (map (λ f. f.items) files) (stops s line)
modules_stop files all i file s line within at count stopped rest =
    rest_stops (λ before bytes. ModuleOf (length before) bytes) (λ (f : Vec ℕ Global). f.items) files
    (ModulesOf (map (λ f. f.items) files)) all i file s line
    (drop_at files i file within at) (subst (λ n. ModuleOf n file.items (stops s line)) (sym count) stopped) rest
