-- The laws of the stages that several commands have: a file, an image, the verdict, and a file that is kept.
use Rattle.std.proofs.Common.{◌≡◌, ◌<◌, ◌≤◌, ◌∙◌, ◌⊎◌, ℕ, Bool, true, false, List, length, All, Option, None, Some}
use Rattle.std.proofs.Common.{IsSome, IsSomeAnd, Result, Ok, Err, IfOk, refl, sym, ap, subst, inl, inr, ⊎_elim, arith}
use Rattle.std.proofs.lemmas.Bool.{cases_lt}
use Rattle.alpha_io.specs.Files.{Files, HasFile, KeepsFiles, IfTold, Refuses}
use Rattle.alpha_io.proofs.ShelfLaws.{Lacks-not_told}
use Rattle.alpha_image.specs.declared.fault.ImageFault.{ImageFault}
use Rattle.alpha_image.specs.Parts.{Parts, IsByte, IsImage, image_spelling}
use Rattle.alpha_image.specs.PartsOf.{parts_of}
use Rattle.alpha_image.specs.ImageFault.{first_fault}
use Rattle.alpha_image.proofs.ReadSpelling.{IsBytes-All, image-no_fault}
use Rattle.alpha_image.proofs.Spelled.{image_spelling-injective, first_fault-image_spelling}
use Rattle.alpha_shadow.specs.declared.broken.Broken.{Broken}
use Rattle.alpha_shadow.specs.Broken.{IsAccepted}
use Rattle.alpha_shadow.specs.Least.{IsLeastBroken, NoLater}
use Rattle.alpha_verdict.specs.Report.{broken_line}
use Rattle.alpha_shadow.proofs.ConditionNumbers.{condition_number-injective}
use Rattle.alpha_shadow.proofs.Decided.{IsAccepted-or_IsLeastBroken}
use Rattle.alpha_cmd.specs.declared.decision.Decision.{Decision}
use Rattle.alpha_cmd.specs.declared.status.Status.{Status}
use Rattle.alpha_cmd.specs.declared.status.Status.TheVariants.{Done, NotRestartable, BadImage, ShelfFault, TooLarge}
use Rattle.alpha_cmd.specs.declared.stop.Stop.{Stop}
use Rattle.alpha_cmd.specs.Status.{refused, class_of, status_line, Says}
use Rattle.alpha_cmd.specs.Outcome.{Outcome, continues, stops, Either}
use Rattle.alpha_cmd.specs.Image.{Unread, Reads, Spells, ImageOf, Judges, image_limit}
use Rattle.alpha_cmd.specs.Answer.{Answer}
use Rattle.alpha_cmd.specs.AnswerBy.{World, HaveBytes, kept_as}
use Rattle.alpha_cmd.specs.Decision.{SaysStop}
use Rattle.alpha_cmd.specs.Keeping.{Untaken, KeepsAs}
use Rattle.alpha_cmd.specs.Stage.{StopsBy, stop_status, stop_line}
use Rattle.alpha_cmd.proofs.Lawful.{Lawful, HasOutcome, IsSingle, IsRefusal, Either-single, Says-one, Faults-lawful}
use Rattle.alpha_cmd.proofs.Lawful.{Then-lawful}

-- ---- a file

pub is_file-injective : (o : Option (List ℕ)) (a b : List ℕ) → IsSomeAnd o (λ file. file ≡ a)
    → IsSomeAnd o (λ file. file ≡ b)
    → a ≡ b
is_file-injective None a b h g = absurd h
is_file-injective (Some file) a b h g = sym h ∙ g

IsSomeAnd-None : (o : Option (List ℕ)) (P : List ℕ → Type 0) → o ≡ None → IsSomeAnd o P → ⊥
IsSomeAnd-None None P e h = h
IsSomeAnd-None (Some file) P e h = cc

too_long : (o : Option (List ℕ)) (a : List ℕ) (limit : ℕ) → IsSomeAnd o (λ file. file ≡ a) → length a ≤ limit
    → IsSomeAnd o (λ file. limit < length file) → ⊥
too_long None a limit h within longer = h
too_long (Some file) a limit h within longer = omega (arith, ap length h)

read_apart : (files : List ℕ → Option (List ℕ)) (name : List ℕ) (limit : ℕ) (a : List ℕ) (s : Status)
    → IsSomeAnd (files name) (λ file. file ≡ a) → length a ≤ limit → Unread (Some files) name limit s → ⊥
read_apart files name limit a s there within (inl h) = IsSomeAnd-None (files name) (λ file. file ≡ a) h.1 there
read_apart files name limit a s there within (inr h) = too_long (files name) a limit there within h.1

same_miss : (files : List ℕ → Option (List ℕ)) (name : List ℕ) (limit : ℕ) (s t : Status)
    → Unread (Some files) name limit s → Unread (Some files) name limit t → s ≡ t
same_miss files name limit s t (inl h) (inl g) = h.0 ∙ sym g.0
same_miss files name limit s t (inl h) (inr g) =
    absurd (IsSomeAnd-None (files name) (λ file. limit < length file) h.1 g.1)
same_miss files name limit s t (inr h) (inl g) =
    absurd (IsSomeAnd-None (files name) (λ file. limit < length file) g.1 h.1)
same_miss files name limit s t (inr h) (inr g) = h.0 ∙ sym g.0

Reads-single : (files : Files) (name : List ℕ) (limit : ℕ) → IsSome files → IsSingle (Reads files name limit)
Reads-single None name limit told o p h g = cc
Reads-single (Some files) name limit told o p h g =
    Either-single (λ bytes. HasFile (Some files) name bytes × (length bytes ≤ limit))
    (Says (Unread (Some files) name limit))
    (record {
      good = λ a b x y. is_file-injective (files name) a b x.0 y.0;
      why = Says-one (Unread (Some files) name limit) (same_miss files name limit);
      apart = λ a s l x y. read_apart files name limit a s x.0 x.1 y.0;
    })
    o p h g

file_some : (files : List ℕ → Option (List ℕ)) (name : List ℕ) (limit : ℕ) (o : Option (List ℕ)) → files name ≡ o
    → HasOutcome (Reads (Some files) name limit)
file_some files name limit None e = (stops ShelfFault (status_line ShelfFault), (inl (refl, e), refl))
file_some files name limit (Some file) e =
    ⊎_elim
    (λ (longer : limit < length file). (
      stops (TooLarge limit) (status_line (TooLarge limit)),
      (inr (refl, subst (λ o. IsSomeAnd o (λ f. limit < length f)) (sym e) longer), refl),
    ))
    (λ (within : length file ≤ limit).
    (continues file, (subst (λ o. IsSomeAnd o (λ f. f ≡ file)) (sym e) refl, within)))
    (cases_lt limit (length file))

Reads-some : (files : Files) (name : List ℕ) (limit : ℕ) → IsSome files → HasOutcome (Reads files name limit)
Reads-some None name limit told = cc
Reads-some (Some files) name limit told = file_some files name limit (files name) refl

Reads-plain : (files : Files) (name : List ℕ) (limit : ℕ) (there : Type 0)
    → (there → IfTold files name (λ bytes. Unit {0})) → (s : Status) (line : List ℕ)
    → Reads files name limit (stops s line) → IsRefusal there s
Reads-plain files name limit there has s line (inl h, is) =
    inr (h.0, λ t. Lacks-not_told files name (λ bytes. Unit {0}) h.1 (has t))
Reads-plain files name limit there has s line (inr h, is) = inl (ap class_of h.0)

pub Reads-lawful : (told whole there : Type 0) (files : Files) (name : List ℕ) (limit : ℕ) → (told → IsSome files)
    → (whole → IsSome files)
    → (there → IfTold files name (λ bytes. Unit {0})) → Lawful told whole there (Reads files name limit)
Reads-lawful told whole there files name limit is_told is_whole has = record {
  single = λ h. Reads-single files name limit (is_told h);
  some = λ h. Reads-some files name limit (is_whole h);
  plain = Reads-plain files name limit there has;
}

-- the bytes that were read of a told file
found_bytes : (files : List ℕ → Option (List ℕ)) (name bytes : List ℕ) → HaveBytes (Some files) → (o : Option (List ℕ))
    → files name ≡ o → IsSomeAnd o (λ file. file ≡ bytes)
    → All IsByte bytes
found_bytes files name bytes whole None e there = absurd there
found_bytes files name bytes whole (Some file) e there = subst (All IsByte) there (whole name file e)

pub HasFile-IsByte : (files : Files) (name bytes : List ℕ) → IsSome files → HaveBytes files → HasFile files name bytes
    → All IsByte bytes
HasFile-IsByte None name bytes told whole there = cc
HasFile-IsByte (Some files) name bytes told whole there = found_bytes files name bytes whole (files name) refl there

-- files that stay are the same
pub KeepsFiles-equal : (a b : Files) → KeepsFiles a b → b ≡ a
KeepsFiles-equal None None kept = refl
KeepsFiles-equal None (Some g) kept = absurd kept
KeepsFiles-equal (Some f) None kept = absurd kept
KeepsFiles-equal (Some f) (Some g) kept = λ i. Some (λ name. kept name i)

-- ---- an image

spells_some : (bytes : List ℕ) → All IsByte bytes → (fault : Option ImageFault) → first_fault bytes ≡ fault
    → HasOutcome (Spells bytes)
spells_some bytes all None e = (continues (parts_of bytes), image-no_fault bytes (IsBytes-All bytes all) e)
spells_some bytes all (Some fault) e = (stops (BadImage fault) (status_line (BadImage fault)), ((fault, refl, e), refl))

pub Spells-lawful : (told whole there : Type 0) (bytes : List ℕ) → (whole → All IsByte bytes)
    → Lawful told whole there (Spells bytes)
Spells-lawful told whole there bytes all =
    Faults-lawful (λ image. IsImage image × (bytes ≡ image_spelling image)) BadImage (first_fault bytes) Some
    (λ f g e. cc)
    (λ f. refl)
    (λ a b h g. image_spelling-injective a b h.0 g.0 (sym h.1 ∙ g.1))
    (λ a f h first. let none = ap first_fault h.1 ∙ first_fault-image_spelling a h.0 in cc)
    (λ h. spells_some bytes (all h) (first_fault bytes) refl)

pub ImageOf-lawful : (told whole there : Type 0) (files : Files) (name : List ℕ) → (told → IsSome files)
    → (whole → IsSome files × HaveBytes files)
    → (there → IfTold files name (λ bytes. Unit {0})) → Lawful told whole there (ImageOf files name)
ImageOf-lawful told whole there files name is_told is_whole has =
    Then-lawful {R = Reads files name image_limit} {S = Spells}
    (Reads-lawful told whole there files name image_limit is_told (λ h. (is_whole h).0) has)
    (λ bytes read.
    Spells-lawful told whole there bytes (λ h. HasFile-IsByte files name bytes (is_whole h).0 (is_whole h).1 read.0))

at_stop : {X : Type 0} (R : Outcome X → Type 0) (shelf : Type 0)
    → ((s : Status) (line : List ℕ) → R (stops s line) → IsRefusal ⊥ s)
    → (stop : Stop) → StopsBy R shelf stop → stop_status stop ≡ Done 0 → ⊥
at_stop R shelf plain stop (inl h) e =
    ⊎_elim (λ (no : class_of (stop_status stop) ≡ refused). let x = sym (ap class_of e) ∙ no in cc)
    (λ (no : (stop_status stop ≡ ShelfFault) × (⊥ → ⊥)). let x = sym e ∙ no.0 in cc)
    (plain (stop_status stop) (stop_line stop) h)
at_stop R shelf plain stop (inr (inl is)) e = let x = sym e ∙ ap stop_status is in cc
at_stop R shelf plain stop (inr (inr h)) e = let x = sym e ∙ ap stop_status h.0 in cc

-- a decision that says why a stage stopped isn't that it is done
pub SaysStop-not_done : {X : Type 0} (R : Outcome X → Type 0) (shelf : Type 0)
    → ((s : Status) (line : List ℕ) → R (stops s line) → IsRefusal ⊥ s)
    → (stop : Stop) (d : Decision) → SaysStop stop d → StopsBy R shelf stop → d.status ≡ Done 0 → ⊥
SaysStop-not_done R shelf plain stop d says why done =
    at_stop R shelf plain stop why (sym (ap (λ (a : Answer). a.status) (says None)) ∙ done)

pub image_plain : (files : Files) (name : List ℕ) (s : Status) (line : List ℕ) → ImageOf files name (stops s line)
    → IsRefusal ⊥ s
image_plain files name = (ImageOf-lawful ⊥ ⊥ ⊥ files name (λ no. absurd no) (λ no. absurd no) (λ no. absurd no)).plain

pub IfOk-more : {T E : Type 0} {P Q : T → Type 0} (r : Result T E) → ((v : T) → P v → Q v) → IfOk r P → IfOk r Q
IfOk-more (Ok v) more h = more v h
IfOk-more (Err e) more h = tt

-- ---- the verdict

-- two least broken places are one
pub IsLeastBroken-unique : (code : List ℕ) (b c : Broken) → IsLeastBroken code b → IsLeastBroken code c → b ≡ c
IsLeastBroken-unique code b c x y =
    go (x.least c.trigger c.at c.condition y.broken) (y.least b.trigger b.at b.condition x.broken)
  where
    joined : b.at ≡ c.at → b.trigger ≡ c.trigger → b.condition ≡ c.condition → b ≡ c
    joined e f g = λ i. record { trigger = f i; at = e i; condition = g i }

    go : NoLater b c.trigger c.at c.condition → NoLater c b.trigger b.at b.condition → b ≡ c
    go p q = ⊎_elim
        (λ (m : b.at < c.at). absurd (⊎_elim (λ (n : c.at < b.at). omega arith) (λ n. omega (arith, n.0)) q))
        (λ m. ⊎_elim
        (λ (n : c.at < b.at). absurd (omega (arith, m.0)))
        (λ n. ⊎_elim
        (λ (o : b.trigger < c.trigger).
        absurd (⊎_elim (λ (r : c.trigger < b.trigger). omega arith) (λ r. omega (arith, r.0)) n.1))
        (λ o. ⊎_elim
        (λ (r : c.trigger < b.trigger). absurd (omega (arith, o.0)))
        (λ r. joined m.0 o.0 (condition_number-injective b.condition c.condition (omega (arith, o.1, r.1))))
        n.1)
        m.1)
        q)
        p

-- why code with this base is refused, and what is let through where it isn't
abbrev pub IsRefusedBy : List ℕ → ℕ → Status → List ℕ → Type 0
IsRefusedBy code base status line =
    (b : Broken) × (status ≡ NotRestartable b) × (IsLeastBroken code b × (line ≡ broken_line b base))

abbrev pub PassesAccepted : {X : Type 0} → List ℕ → X → X → Type 0
PassesAccepted code x y = IsAccepted code × (y ≡ x)

same_refusal : (code : List ℕ) (base : ℕ) (s t : Status) (l m : List ℕ) → IsRefusedBy code base s l
    → IsRefusedBy code base t m → (s ≡ t) × (l ≡ m)
same_refusal code base s t l m (b, is, why) (c, also, because) =
    let same = IsLeastBroken-unique code b c why.0 because.0 in
    (is ∙ (ap NotRestartable same ∙ sym also), why.1 ∙ (ap (λ place. broken_line place base) same ∙ sym because.1))

judged_some : {X : Type 0} (code : List ℕ) (base : ℕ) (x : X)
    → HasOutcome (Either (PassesAccepted code x) (IsRefusedBy code base))
judged_some code base x =
    ⊎_elim
    (λ (good : IsAccepted code). (continues x, (good, refl)))
    (λ (bad : (b : Broken) × IsLeastBroken code b).
    (stops (NotRestartable bad.0) (broken_line bad.0 base), (bad.0, refl, (bad.1, refl))))
    (IsAccepted-or_IsLeastBroken code)

pub Verdict-lawful : {X told whole there : Type 0} (code : List ℕ) (base : ℕ) (x : X)
    → Lawful told whole there (Either (PassesAccepted code x) (IsRefusedBy code base))
Verdict-lawful code base x = record {
  single = λ h. Either-single (PassesAccepted code x) (IsRefusedBy code base) (record {
    good = λ a b h g. h.1 ∙ sym g.1;
    why = same_refusal code base;
    apart = λ a s l h g. h.0 g.0.trigger g.0.at g.0.condition g.2.0.broken;
  });
  some = λ h. judged_some code base x;
  plain = λ s line h. inl (ap class_of h.1);
}

pub Judges-lawful : (told whole there : Type 0) (image : Parts) → Lawful told whole there (Judges image)
Judges-lawful told whole there image = Verdict-lawful image.words image.code_base image

-- ---- a file that is kept

pub Refuses-decided : (files : Files) (taken : Bool) → Refuses files taken ⊎ ¬ Refuses files taken
Refuses-decided None taken = inr (λ h. h)
Refuses-decided (Some f) true = inr (λ h. cc)
Refuses-decided (Some f) false = inl refl

pub Refuses-not_taken : (files : Files) (taken : Bool) → Refuses files taken → taken ≡ true → ⊥
Refuses-not_taken None taken h e = h
Refuses-not_taken (Some f) taken h e = let no = h in cc

kept_some : (w : World) (out bytes : List ℕ) → HasOutcome (KeepsAs w out bytes)
kept_some w out bytes =
    ⊎_elim
    (λ (h : Untaken w out bytes). (stops ShelfFault (status_line ShelfFault), ((refl, h), refl)))
    (λ (h : ¬ Untaken w out bytes). (continues (kept_as w.input out bytes), (h, refl)))
    (Refuses-decided w.files (w.takes out (length bytes)))

pub KeepsAs-lawful : (told whole there : Type 0) (w : World) (out bytes : List ℕ)
    → (there → w.takes out (length bytes) ≡ true) → Lawful told whole there (KeepsAs w out bytes)
KeepsAs-lawful told whole there w out bytes has = record {
  single =
      λ h. Either-single (λ a. ¬ Untaken w out bytes × (a ≡ kept_as w.input out bytes))
      (Says (λ status. (status ≡ ShelfFault) × Untaken w out bytes)) (record {
        good = λ a b h g. h.1 ∙ sym g.1;
        why = Says-one (λ status. (status ≡ ShelfFault) × Untaken w out bytes) (λ s t h g. h.0 ∙ sym g.0);
        apart = λ a s l h g. h.0 g.0.1;
      });
  some = λ h. kept_some w out bytes;
  plain = λ s line h. inr (h.0.0, λ t. Refuses-not_taken w.files (w.takes out (length bytes)) h.0.1 (has t));
}
