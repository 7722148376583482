-- Where a relocation of a good module stands, an instruction of its kind takes the address, and has none yet.
use Rattle.std.proofs.Common.{◌≡◌, ◌≢◌, ℕ, zero, suc, ◌+◌, ◌-◌, ◌*◌, ◌/◌, ◌%◌, ◌<◌, ◌≤◌, true, false, ◌==◌, List, []}
use Rattle.std.proofs.Common.{◌∷◌, ◌++◌, length, map, Option, None, Some, slice_get, refl, sym, ap, subst, ◌∙◌}
use Rattle.std.proofs.Common.{eqb-true, arith}
use Rattle.std.specs.Prelude.{slice_set, is_some}
use Rattle.std.specs.Option.{option_map_or, option_and_then}
use Rattle.std.proofs.lemmas.Bool.{ltb-true}
use Rattle.std.proofs.lemmas.List.{length-set}
use Rattle.alpha_table.specs.declared.form.Form.{Form}
use Rattle.alpha_table.specs.Decoded.{decoded}
use Rattle.alpha_asm.specs.declared.patch.Displacement.{Displacement}
use Rattle.alpha_asm.specs.declared.patch.RelocationKind.{RelocationKind}
use Rattle.alpha_asm.specs.declared.patch.RelocationKind.TheVariants.{Insn, Quad}
use Rattle.alpha_asm.specs.declared.statement.RelocField.{RelocField}
use Rattle.alpha_asm.specs.Program.{displaced}
use Rattle.alpha_asm.specs.Unlinked.{takes}
use Rattle.alpha_asm.specs.Patches.{code_at as code_at_any}
use Rattle.alpha_link.specs.declared.header.Sizes.{Sizes}
use Rattle.alpha_link.specs.declared.relocation.Relocation.{Relocation}
use Rattle.alpha_link.specs.Relocations.{Body, body, stands_at, follows, follows_all, relocation_fits, IsRelocation}
use Rattle.alpha_link.specs.Parts.{AreGood}
use Rattle.alpha_link.specs.Linked.{Located, use_of, displacement, insn_with, code_at, code_after}
use Rattle.alpha_link.specs.Output.{code_with_all}
use Rattle.alpha_link.proofs.SourceSymbols.{slice_get-last}
use Rattle.alpha_link.proofs.RelocationBytes.{and-first_true, and-second_true}
use Rattle.alpha_link.proofs.ShiftedRelocations.{code_at_shift}

-- the code behind the last relocation so far is as the module has it
abbrev pub IsUnchangedBehind : Option Relocation → List Form → List Form → Type 0
IsUnchangedBehind None own code = (k : ℕ) → slice_get code k ≡ slice_get own k
IsUnchangedBehind (Some last) own code =
    is_some (use_of last.kind) ≡ true → (k : ℕ) → last.offset < 4 * k → slice_get code k ≡ slice_get own k

follows_insn : (k l : RelocationKind) (a b : ℕ) → is_some (use_of l) ≡ true → follows k a l b ≡ true
    → (is_some (use_of k) ≡ true) × (a < b)
follows_insn k Quad a b i f = absurd cc
follows_insn Quad (Insn by) a b i f = absurd cc
follows_insn (Insn other) (Insn by) a b i f = (refl, ltb-true a b f)

fresh_behind : (o : Option Relocation) (own code : List Form) (r : Relocation) → is_some (use_of r.kind) ≡ true
    → option_map_or (λ last. follows last.kind last.offset r.kind r.offset) o true ≡ true
    → IsUnchangedBehind o own code → (k : ℕ) → r.offset ≤ 4 * k → slice_get code k ≡ slice_get own k
fresh_behind None own code r insn f fresh k h = fresh k
fresh_behind (Some last) own code r insn f fresh k h =
    let (so, below) = follows_insn last.kind r.kind last.offset r.offset insn f in
    fresh so k (omega arith)

-- the instruction of a word
insn_there : (words : List ℕ) (own : List Form) → map decoded words ≡ map Some own → (k : ℕ)
    → option_and_then decoded (slice_get words k) ≡ slice_get own k
insn_there [] [] e k = refl
insn_there [] (i ∷ own) e k = absurd cc
insn_there (w ∷ words) [] e k = absurd cc
insn_there (w ∷ words) (i ∷ own) e zero = let here : decoded w ≡ Some i = cc in here
insn_there (w ∷ words) (i ∷ own) e (suc k) =
    let later : map decoded words ≡ map Some own = cc in
    insn_there words own later k

-- an instruction that takes an address needs no test
taken_with : (field : RelocField) (d : Displacement) (place : ℕ) (code : List Form) (o : Option Form)
    → option_map_or (takes field) o false ≡ true
    → option_map_or (λ insn. slice_set code place (displaced insn d)) o code
    ≡ option_map_or (λ insn. slice_set code place (insn_with (Insn field) d insn)) o code
taken_with field d place code None taken = absurd cc
taken_with field d place code (Some insn) taken = rw taken refl

code_at_any-takes : (field : RelocField) (o : Option Displacement) (place : ℕ) (code : List Form)
    → option_map_or (takes field) (slice_get code place) false ≡ true
    → code_at_any o place code ≡ code_at (Insn field) place o code
code_at_any-takes field None place code t = refl
code_at_any-takes field (Some d) place code t = taken_with field d place code (slice_get code place) t

-- what is put in changes no other place
get_other : {A : Type 0} (xs : List A) (p k : ℕ) (x : A) → p ≢ k → slice_get (slice_set xs p x) k ≡ slice_get xs k
get_other [] p k x n = refl
get_other (y ∷ xs) zero zero x n = absurd (n refl)
get_other (y ∷ xs) zero (suc k) x n = refl
get_other (y ∷ xs) (suc p) zero x n = refl
get_other (y ∷ xs) (suc p) (suc k) x n = get_other xs p k x (λ e. n (ap suc e))

code_at_other : (kind : RelocationKind) (o : Option Displacement) (p k : ℕ) (code : List Form) → p ≢ k
    → slice_get (code_at kind p o code) k ≡ slice_get code k
code_at_other kind None p k code n = refl
code_at_other kind (Some d) p k code n = by (slice_get code p)
  where
    by : (o : Option Form)
        → slice_get (option_map_or (λ insn. slice_set code p (insn_with kind d insn)) o code) k ≡ slice_get code k
    by None = refl
    by (Some insn) = get_other code p k (insn_with kind d insn) n

-- ---- a relocation of a good module

good_stands : (z : Sizes) (b : Body) (before : List Relocation) (r : Relocation) → relocation_fits z b before r ≡ true
    → (stands_at b r.kind r.offset ≡ true) × (follows_all before r ≡ true)
unfolding relocation_fits
good_stands z b before r e =
    let both = and-second_true _ _ (and-second_true _ _ e) in
    (and-first_true _ _ both, and-second_true _ _ both)

no_displacement : (addresses : List (Option ℕ)) (l : Located) (r : Relocation) → use_of r.kind ≡ None
    → displacement addresses l r ≡ None
no_displacement addresses l r e = rw e refl

one_put : (kind : RelocationKind) (offset : ℕ) (words bytes : List ℕ) (own code : List Form) (d : Option Displacement)
    → map decoded words ≡ map Some own → stands_at (body words bytes) kind offset ≡ true
    → (is_some (use_of kind) ≡ true → (k : ℕ) → offset ≤ 4 * k → slice_get code k ≡ slice_get own k)
    → (use_of kind ≡ None → d ≡ None)
    → code_at_any d (offset / 4) code ≡ code_at kind (offset / 4) d code
one_put (Insn by) offset words bytes own code d known stands fresh none =
    let place : offset ≤ 4 * (offset / 4) = omega (arith, eqb-true (offset % 4) 0 (and-first_true _ _ stands)) in
    let here : slice_get code (offset / 4) ≡ option_and_then decoded (slice_get words (offset / 4)) =
    fresh refl (offset / 4) place ∙ sym (insn_there words own known (offset / 4)) in
    code_at_any-takes by d (offset / 4) code
    (ap (λ (o : Option Form). option_map_or (takes by) o false) here ∙ and-second_true (offset % 4 == 0) _ stands)
one_put Quad offset words bytes own code d known stands fresh none = rw (none refl) refl

-- the addresses of a module put in behind other code
pub code_with_all-append : (addresses : List (Option ℕ)) (l : Located) (z : Sizes) (words bytes : List ℕ)
    (own old : List Form)
    → l.words ≡ length old → map decoded words ≡ map Some own
    → (before rs : List Relocation) (code : List Form) → AreGood (IsRelocation z (body words bytes)) before rs
    → IsUnchangedBehind (slice_get before (length before - 1)) own code
    → code_with_all addresses l rs (old ++ code) ≡ old ++ code_after addresses l rs code
code_with_all-append addresses l z words bytes own old here known before [] code good fresh = refl
code_with_all-append addresses l z words bytes own old here known before (r ∷ rs) code (good, rest) fresh =
    let d = displacement addresses l r in
    let place = r.offset / 4 in
    let last = slice_get before (length before - 1) in
    let (stands, follows) = good_stands z (body words bytes) before r good.fits in
    let clean : is_some (use_of r.kind) ≡ true → (k : ℕ) → r.offset ≤ 4 * k → slice_get code k ≡ slice_get own k =
    λ so. fresh_behind last own code r so follows fresh in
    let one : code_at_any d place code ≡ code_at r.kind place d code =
    one_put r.kind r.offset words bytes own code d known stands clean (no_displacement addresses l r) in
    let next = code_at r.kind place d code in
    let later : IsUnchangedBehind (Some r) own next =
    λ so k h. code_at_other r.kind d place k code (λ e. omega (arith, e, h)) ∙ clean so k (omega (arith, h)) in
    ap (λ (n : ℕ). code_with_all addresses l rs (code_at_any d (n + place) (old ++ code))) here
    ∙ (ap (code_with_all addresses l rs) (code_at_shift old code place d ∙ ap (λ (c : List Form). old ++ c) one)
    ∙ code_with_all-append addresses l z words bytes own old here known (before ++ r ∷ []) rs next rest
    (subst (λ (o : Option Relocation). IsUnchangedBehind o own next) (sym (slice_get-last before r)) later))

-- putting addresses in leaves how many instructions there are
length-code_at : (kind : RelocationKind) (p : ℕ) (o : Option Displacement) (code : List Form)
    → length (code_at kind p o code) ≡ length code
length-code_at kind p None code = refl
length-code_at kind p (Some d) code = by (slice_get code p)
  where
    by : (o : Option Form)
        → length (option_map_or (λ insn. slice_set code p (insn_with kind d insn)) o code) ≡ length code
    by None = refl
    by (Some insn) = length-set code p (insn_with kind d insn)

pub length-code_after : (addresses : List (Option ℕ)) (l : Located) (rs : List Relocation) (code : List Form)
    → length (code_after addresses l rs code) ≡ length code
length-code_after addresses l [] code = refl
length-code_after addresses l (r ∷ rs) code =
    length-code_after addresses l rs (code_at r.kind (r.offset / 4) (displacement addresses l r) code)
    ∙ length-code_at r.kind (r.offset / 4) (displacement addresses l r) code
