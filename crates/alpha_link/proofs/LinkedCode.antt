-- Modules whose code is accepted link to an image whose code is accepted.
use Rattle.std.proofs.Common.{◌≡◌, ℕ, ℤ, zero, suc, ◌/◌, Bool, true, false, List, [], ◌∷◌, ◌++◌, length, map, Option}
use Rattle.std.proofs.Common.{Some, None, slice_get, cond, ap, sym, subst, refl, ◌∙◌}
use Rattle.std.specs.Prelude.{All, IsSome, IsSomeAnd, Result, Ok, slice_set}
use Rattle.std.specs.List.{concat, flat_map, filter_map, cons_option}
use Rattle.std.specs.Option.{option_map, option_map_or}
use Rattle.std.proofs.lemmas.List.{length-map}
use Rattle.std.proofs.lemmas.List.Elements.{All-nil, All-cons, All-head, All-tail}
use Rattle.alpha_words.specs.declared.Level.{Level}
use Rattle.alpha_table.specs.declared.op.Cond.{Cond}
use Rattle.alpha_table.specs.Rows.{branch_row}
use Rattle.alpha_table.specs.declared.rows.MemOp.TheVariants.{Lda, Ldah}
use Rattle.alpha_table.specs.declared.form.Form.{Form}
use Rattle.alpha_table.specs.declared.form.Form.TheVariants.{Mem, Branch}
use Rattle.alpha_table.specs.Class.{Class, branch}
use Rattle.alpha_table.specs.ClassOf.{class_of}
use Rattle.alpha_table.specs.Code.{class_at}
use Rattle.alpha_table.specs.Decoded.{decoded}
use Rattle.alpha_table.proofs.Classes.{class_in-decoded}
use Rattle.alpha_table.proofs.Levels.{level_in-decoded}
use Rattle.alpha_image.specs.Parts.{Parts, IsImage, IsCodeWord}
use Rattle.alpha_image.specs.FieldTests.{least_bad_field}
use Rattle.alpha_shadow.specs.Broken.{IsAccepted}
use Rattle.alpha_asm.specs.declared.patch.Displacement.{Displacement}
use Rattle.alpha_asm.specs.declared.patch.Displacement.TheVariants.{Words, Bytes}
use Rattle.alpha_asm.specs.Program.{Program, program_of, displaced}
use Rattle.alpha_asm.specs.Unlinked.{takes}
use Rattle.alpha_link.specs.declared.fault.LinkFault.{LinkFault}
use Rattle.alpha_link.specs.declared.fault.LinkFault.TheVariants.{Duplicate, Undefined, ImageField, Reach}
use Rattle.alpha_asm.specs.declared.patch.RelocationKind.{RelocationKind}
use Rattle.alpha_asm.specs.declared.patch.RelocationKind.TheVariants as kinds
use Rattle.alpha_asm.specs.declared.statement.RelocField.{RelocField}
use Rattle.alpha_asm.specs.declared.statement.RelocField.TheVariants as uses
use Rattle.alpha_link.specs.declared.relocation.Relocation.{Relocation}
use Rattle.alpha_link.specs.Alike.{HaveSameColumns, AreAlike}
use Rattle.alpha_link.specs.Parts.{ModuleParts}
use Rattle.alpha_link.specs.Linked.{Located, located, places, addresses_of, displacement, insn_with, code_at}
use Rattle.alpha_link.specs.Linked.{code_after, code_of, repeated, first_unresolved, out_of_range, entry_of}
use Rattle.alpha_link.specs.Linked.{numbers_with}
use Rattle.alpha_link.specs.Linked.{unless_refused, linked_at, linked}
use Rattle.alpha_link.proofs.JoinedCode.{same_columns, accepted_concat, parts_accepted-alike}

HaveSameColumns-refl : (c : Option Class) → HaveSameColumns c c
HaveSameColumns-refl c = same_columns c c refl

then_same : (c d e : Option Class) → HaveSameColumns c d → HaveSameColumns d e → HaveSameColumns c e
then_same c d e a b = record {
  kind = a.kind ∙ b.kind;
  sets = a.sets ∙ b.sets;
  uses = λ r. a.uses r ∙ b.uses r;
  access = a.access ∙ b.access;
  destination = a.destination ∙ b.destination;
}

-- instructions of the same columns, one by one
abbrev pub HaveSameColumnsEach : List Form → List Form → Type 0
HaveSameColumnsEach [] [] = Unit {0}
HaveSameColumnsEach [] (j ∷ js) = ⊥
HaveSameColumnsEach (i ∷ is) [] = ⊥
HaveSameColumnsEach (i ∷ is) (j ∷ js) =
    HaveSameColumns (Some (class_of i)) (Some (class_of j)) × HaveSameColumnsEach is js

match_same : (is : List Form) → HaveSameColumnsEach is is
match_same [] = tt
match_same (i ∷ is) = (HaveSameColumns-refl (Some (class_of i)), match_same is)

match_then : (a b c : List Form) → HaveSameColumnsEach a b → HaveSameColumnsEach b c → HaveSameColumnsEach a c
match_then [] [] [] m n = tt
match_then [] [] (k ∷ c) m n = absurd n
match_then [] (j ∷ b) c m n = absurd m
match_then (i ∷ a) [] c m n = absurd m
match_then (i ∷ a) (j ∷ b) [] m n = absurd n
match_then (i ∷ a) (j ∷ b) (k ∷ c) m n =
    (then_same (Some (class_of i)) (Some (class_of j)) (Some (class_of k)) m.0 n.0, match_then a b c m.1 n.1)

match_append : (a b c d : List Form) → HaveSameColumnsEach a b → HaveSameColumnsEach c d
    → HaveSameColumnsEach (a ++ c) (b ++ d)
match_append [] [] c d m n = n
match_append [] (j ∷ b) c d m n = absurd m
match_append (i ∷ a) [] c d m n = absurd m
match_append (i ∷ a) (j ∷ b) c d m n = (m.0, match_append a b c d m.1 n)

length-match : (a b : List Form) → HaveSameColumnsEach a b → length a ≡ length b
length-match [] [] m = refl
length-match [] (j ∷ b) m = absurd m
length-match (i ∷ a) [] m = absurd m
length-match (i ∷ a) (j ∷ b) m = ap suc (length-match a b m.1)

match_at : (a b : List Form) → HaveSameColumnsEach a b → (k : ℕ)
    → HaveSameColumns (option_map class_of (slice_get a k)) (option_map class_of (slice_get b k))
match_at [] [] m k = HaveSameColumns-refl None
match_at [] (j ∷ b) m k = absurd m
match_at (i ∷ a) [] m k = absurd m
match_at (i ∷ a) (j ∷ b) m zero = m.0
match_at (i ∷ a) (j ∷ b) m (suc k) = match_at a b m.1 k

-- a branch, and the two computations of an address, with another displacement
turn_alike : (condition : Option Cond) (ra : ℕ) (x y : ℤ)
    → HaveSameColumns (Some (branch condition ra x)) (Some (branch condition ra y))
turn_alike None ra x y = record { kind = refl; sets = refl; uses = λ r. refl; access = refl; destination = refl }
turn_alike (Some condition) ra x y =
    record { kind = refl; sets = refl; uses = λ r. refl; access = refl; destination = refl }

displaced_alike : (field : RelocField) (d : Displacement) (insn : Form) → takes field insn ≡ true
    → HaveSameColumns (Some (class_of insn)) (Some (class_of (displaced insn d)))
displaced_alike field (Words n) (Branch op ra disp) t = turn_alike (branch_row op).condition ra disp n
displaced_alike uses.High (Bytes n) (Mem Ldah ra rb disp) t =
    record { kind = refl; sets = refl; uses = λ r. refl; access = refl; destination = refl }
displaced_alike uses.Low (Bytes n) (Mem Lda ra rb disp) t =
    record { kind = refl; sets = refl; uses = λ r. refl; access = refl; destination = refl }
displaced_alike field (Bytes n) (Mem op ra rb disp) t = absurd cc
displaced_alike field d insn t = HaveSameColumns-refl (Some (class_of insn))

insn_alike : (kind : RelocationKind) (d : Displacement) (insn : Form)
    → HaveSameColumns (Some (class_of insn)) (Some (class_of (insn_with kind d insn)))
insn_alike (kinds.Insn by) d insn = either (takes by insn) refl
  where
    either : (b : Bool) → takes by insn ≡ b
        → HaveSameColumns (Some (class_of insn)) (Some (class_of (cond b (displaced insn d) insn)))
    either true t = displaced_alike by d insn t
    either false t = HaveSameColumns-refl (Some (class_of insn))
insn_alike kinds.Quad d insn = HaveSameColumns-refl (Some (class_of insn))

put_later : (kind : RelocationKind) (d : Displacement) (place : ℕ) (i : Form) (code : List Form) (o : Option Form)
    → option_map_or (λ insn. slice_set (i ∷ code) (suc place) (insn_with kind d insn)) o (i ∷ code)
    ≡ i ∷ option_map_or (λ insn. slice_set code place (insn_with kind d insn)) o code
put_later kind d place i code None = refl
put_later kind d place i code (Some insn) = refl

put_alike : (kind : RelocationKind) (d : Displacement) (place : ℕ) (code : List Form)
    → HaveSameColumnsEach code (code_at kind place (Some d) code)
put_alike kind d place [] = tt
put_alike kind d zero (i ∷ code) = (insn_alike kind d i, match_same code)
put_alike kind d (suc place) (i ∷ code) =
    subst (HaveSameColumnsEach (i ∷ code)) (sym (put_later kind d place i code (slice_get code place)))
    (HaveSameColumns-refl (Some (class_of i)), put_alike kind d place code)

code_at_alike : (kind : RelocationKind) (place : ℕ) (o : Option Displacement) (code : List Form)
    → HaveSameColumnsEach code (code_at kind place o code)
code_at_alike kind place None code = match_same code
code_at_alike kind place (Some d) code = put_alike kind d place code

code_after_alike : (addresses : List (Option ℕ)) (l : Located) (rs : List Relocation) (code : List Form)
    → HaveSameColumnsEach code (code_after addresses l rs code)
code_after_alike addresses l [] code = match_same code
code_after_alike addresses l (r ∷ rs) code =
    let one = code_at r.kind (r.offset / 4) (displacement addresses l r) code in
    match_then code one (code_after addresses l rs one)
    (code_at_alike r.kind (r.offset / 4) (displacement addresses l r) code) (code_after_alike addresses l rs one)

-- the code of the modules, before and after addresses are put in
abbrev raw_code : List Located → List Form
raw_code ls = flat_map (λ l. filter_map decoded l.parts.words) ls

raw_alike : (all ls : List Located) → HaveSameColumnsEach (raw_code ls) (flat_map (code_of all) ls)
raw_alike all [] = tt
raw_alike all (l ∷ ls) =
    match_append (filter_map decoded l.parts.words) (code_of all l) (raw_code ls) (flat_map (code_of all) ls)
    (code_after_alike (addresses_of all l) l l.parts.relocations (filter_map decoded l.parts.words)) (raw_alike all ls)

-- words that have instructions
abbrev pub AreKnownWords : List ℕ → Type 0
AreKnownWords words = All (λ w. IsSome (decoded w)) words

known_one : (o : Option Form) (rest : List Form) → IsSome o → o ∷ map Some rest ≡ map Some (cons_option o rest)
known_one None rest h = absurd cc
known_one (Some i) rest h = refl

pub AreKnownWords-decoded : (words : List ℕ) → AreKnownWords words
    → map decoded words ≡ map Some (filter_map decoded words)
AreKnownWords-decoded [] all = refl
AreKnownWords-decoded (w ∷ words) all =
    ap (λ (os : List (Option Form)). decoded w ∷ os)
    (AreKnownWords-decoded words (All-tail (λ (v : ℕ). IsSome (decoded v)) w words all))
    ∙ known_one (decoded w) (filter_map decoded words) (All-head (λ (v : ℕ). IsSome (decoded v)) w words all)

-- the class at a place is that of the instruction there
class_of_insns : (words : List ℕ) (is : List Form) → map decoded words ≡ map Some is → (k : ℕ)
    → class_at words k ≡ option_map class_of (slice_get is k)
unfolding class_at
class_of_insns [] [] e k = refl
class_of_insns [] (i ∷ is) e k = absurd cc
class_of_insns (w ∷ words) [] e k = absurd cc
class_of_insns (w ∷ words) (i ∷ is) e zero =
    let here : decoded w ≡ Some i = cc in
    class_in-decoded w ∙ ap (option_map class_of) here
class_of_insns (w ∷ words) (i ∷ is) e (suc k) =
    let later : map decoded words ≡ map Some is = cc in
    class_of_insns words is later k

words_alike : (a b : List ℕ) (is js : List Form) → map decoded a ≡ map Some is → map decoded b ≡ map Some js
    → HaveSameColumnsEach is js → AreAlike a b
words_alike a b is js e f m = record {
  size =
      sym (length-map a decoded) ∙ (ap length e ∙ (length-map is Some
      ∙ (length-match is js m ∙ (sym (length-map js Some) ∙ (ap length (sym f) ∙ length-map b decoded)))));
  columns = λ k. subst (λ (c : Option Class). HaveSameColumns c (class_at b k)) (sym (class_of_insns a is e k))
      (subst (λ (d : Option Class). HaveSameColumns (option_map class_of (slice_get is k)) d)
      (sym (class_of_insns b js f k)) (match_at is js m k));
}

cons_append : (o : Option Form) (a b : List Form) → cons_option o (a ++ b) ≡ cons_option o a ++ b
cons_append None a b = refl
cons_append (Some i) a b = refl

insns_append : (a b : List ℕ) → filter_map decoded (a ++ b) ≡ filter_map decoded a ++ filter_map decoded b
insns_append [] b = refl
insns_append (w ∷ a) b =
    ap (cons_option (decoded w)) (insns_append a b)
    ∙ cons_append (decoded w) (filter_map decoded a) (filter_map decoded b)

-- all words of the modules
abbrev all_words : List ModuleParts → List ℕ
all_words ms = concat (map (λ m. m.words) ms)

insns_of_all : (ms : List ModuleParts) (number words filled : ℕ)
    → filter_map decoded (all_words ms) ≡ raw_code (located number words filled ms)
insns_of_all [] number words filled = refl
insns_of_all (m ∷ ms) number words filled =
    insns_append m.words (all_words ms)
    ∙ ap (λ (is : List Form). filter_map decoded m.words ++ is) (insns_of_all ms _ _ _)

abbrev pub IsGood : ModuleParts → Type 0
IsGood m = AreKnownWords m.words × IsAccepted m.words

all_append : (P : ℕ → Type 0) (a b : List ℕ) → All P a → All P b → All P (a ++ b)
all_append P [] b m n = n
all_append P (x ∷ a) b m n = All-cons P x (a ++ b) (All-head P x a m) (all_append P a b (All-tail P x a m) n)

all_known : (ms : List ModuleParts) → All IsGood ms → AreKnownWords (all_words ms)
all_known [] all = All-nil (λ (w : ℕ). IsSome (decoded w))
all_known (m ∷ ms) all =
    all_append (λ (w : ℕ). IsSome (decoded w)) m.words (all_words ms) (All-head IsGood m ms all).0
    (all_known ms (All-tail IsGood m ms all))

all_accepted : (ms : List ModuleParts) → All IsGood ms → All IsAccepted (map (λ m. m.words) ms)
all_accepted [] all = All-nil IsAccepted
all_accepted (m ∷ ms) all =
    All-cons IsAccepted m.words (map (λ m. m.words) ms) (All-head IsGood m ms all).1
    (all_accepted ms (All-tail IsGood m ms all))

some_there : (level : Level) (w : ℕ) → IsCodeWord level w → IsSome (decoded w)
some_there level w h = some_of (decoded w) _ ((level_in-decoded level w).0 h.1)
  where
    some_of : (o : Option Form) (P : Form → Type 0) → IsSomeAnd o P → IsSome o
    some_of None P h = absurd h
    some_of (Some i) P h = refl

pub AreKnownWords-code_words : (level : Level) (words : List ℕ) → All (IsCodeWord level) words → AreKnownWords words
AreKnownWords-code_words level [] all = All-nil (λ (w : ℕ). IsSome (decoded w))
AreKnownWords-code_words level (w ∷ words) all =
    All-cons (λ (v : ℕ). IsSome (decoded v)) w words (some_there level w (All-head (IsCodeWord level) w words all))
    (AreKnownWords-code_words level words (All-tail (IsCodeWord level) w words all))

pub unless_ok : (o : Option LinkFault) (r : Result Program LinkFault) (p : Program) → unless_refused o r ≡ Ok p
    → r ≡ Ok p
unless_ok None r p e = e
unless_ok (Some fault) r p e = absurd cc

abbrev pub links_to : Program → Result Program LinkFault
links_to p = Ok p

linked_code : (ls : List Located) (entry : Option ℕ) (p : Program) → linked_at ls entry ≡ Ok p
    → flat_map (code_of ls) ls ≡ p.code
linked_code ls None p e = absurd cc
linked_code ls (Some entry) p e =
    let a = unless_ok (option_map ImageField (least_bad_field (numbers_with ls entry))) _ p e in
    let b = unless_ok (option_map (λ q. Reach q.0 q.1) (out_of_range ls)) _ p a in
    code_is _ p b
  where
    code_is : (q p : Program) → links_to q ≡ Ok p → q.code ≡ p.code
    code_is q p e = let same_program : q ≡ p = cc in ap (λ (r : Program). r.code) same_program

pub linked_accepted : (ms : List ModuleParts) (entry : List ℕ) (image : Parts) → IsImage image
    → linked ms entry ≡ Ok (program_of image) → All IsGood ms → IsAccepted image.words
unfolding linked
linked_accepted ms entry image good e all =
    let ls = places ms in
    let a = unless_ok (option_map (λ p. Duplicate p.0 p.1) (repeated [] ls)) _ (program_of image) e in
    let b = unless_ok (option_map (λ p. Undefined p.0 p.1) (first_unresolved ls)) _ (program_of image) a in
    let code : flat_map (code_of ls) ls ≡ filter_map decoded image.words =
    linked_code ls (entry_of ls entry) (program_of image) b in
    let before : map decoded (all_words ms) ≡ map Some (raw_code ls) =
    AreKnownWords-decoded (all_words ms) (all_known ms all) ∙ ap (map Some) (insns_of_all ms 0 0 0) in
    let after : map decoded image.words ≡ map Some (flat_map (code_of ls) ls) =
    AreKnownWords-decoded image.words (AreKnownWords-code_words image.level image.words good.words)
    ∙ ap (map Some) (sym code) in
    parts_accepted-alike (all_words ms) image.words
    (words_alike (all_words ms) image.words (raw_code ls) (flat_map (code_of ls) ls) before after (raw_alike ls ls))
    (accepted_concat (map (λ m. m.words) ms) (all_accepted ms all))
