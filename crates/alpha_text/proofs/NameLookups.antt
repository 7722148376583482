-- The look-ups of names find each row by its name.
use Rattle.std.proofs.Common.{◌≡◌, ◌≢◌, ℕ, List, [], ◌∷◌, Bool, true, false, cond, ◌≤◌, length, nat_le, arith, Option}
use Rattle.std.proofs.Common.{Some, None, find, refl, sym, ◌∙◌, ap}
use Rattle.std.proofs.lemmas.Bool.{and_parts}
use Rattle.std.specs.List.{list_all}
use Rattle.std.proofs.lemmas.Bool.Decides.{nat_tests}
use Rattle.std.specs.Str.{bytes_eq}
use Rattle.std.specs.Option.{option_map, option_or}
use Rattle.std.proofs.lemmas.Slice.Eq.{bytes_eq-Decides}
use Rattle.alpha_words.specs.declared.PalCall.TheVariants as calls
use Rattle.alpha_table.specs.declared.names.Mnemonic.{Mnemonic}
use Rattle.alpha_table.specs.declared.names.Mnemonic.TheVariants as mnemonics
use Rattle.alpha_table.specs.declared.op.Op.TheVariants as ops
use Rattle.alpha_table.specs.declared.rows.MemOp.TheVariants as memories
use Rattle.alpha_table.specs.declared.rows.BranchOp.TheVariants as branches
use Rattle.alpha_table.specs.declared.rows.JumpKind.TheVariants as jumps
use Rattle.alpha_table.specs.declared.rows.MiscOp.TheVariants as miscs
use Rattle.alpha_table.specs.Names.{name_of}
use Rattle.alpha_text.specs.declared.head.PseudoOp.{PseudoOp}
use Rattle.alpha_text.specs.declared.head.PseudoOp.TheVariants as owns
use Rattle.alpha_text.specs.declared.head.Head.TheVariants as heads
use Rattle.alpha_text.proofs.CanonicalTokens.{is_word}
use Rattle.alpha_text.specs.Heads.{pseudo_op_name, every_pseudo_op, every_mnemonic, mnemonic_at, pseudo_op_at, head_of}

-- the first row of each kind is written out, so that the others are taken one by one
pub mnemonic_at-name : (m : Mnemonic) → mnemonic_at (name_of m) ≡ Some m
unfolding every_mnemonic
mnemonic_at-name (mnemonics.Operate ops.Addl) = refl
mnemonic_at-name (mnemonics.Operate op) = refl
mnemonic_at-name (mnemonics.Mem memories.Lda) = refl
mnemonic_at-name (mnemonics.Mem op) = refl
mnemonic_at-name (mnemonics.Branch branches.Br) = refl
mnemonic_at-name (mnemonics.Branch op) = refl
mnemonic_at-name (mnemonics.Jump jumps.Jmp) = refl
mnemonic_at-name (mnemonics.Jump kind) = refl
mnemonic_at-name (mnemonics.Misc miscs.Trapb) = refl
mnemonic_at-name (mnemonics.Misc op) = refl
mnemonic_at-name (mnemonics.Fetch false) = refl
mnemonic_at-name (mnemonics.Fetch modify) = refl
mnemonic_at-name (mnemonics.Pal calls.Bpt) = refl
mnemonic_at-name (mnemonics.Pal call) = refl

find-passes : {A : Type 0} (test : A → Bool) (xs : List A) (x : A) → find test xs ≡ Some x → test x ≡ true
find-passes test [] x h = cc
find-passes test (y ∷ xs) x h =
    let both : (b : Bool) → test y ≡ b → cond b (Some y) (find test xs) ≡ Some x → test x ≡ true =
    λ b. elim b as (λ v. test y ≡ v → cond v (Some y) (find test xs) ≡ Some x → test x ≡ true) [
      | true ↦ λ e k. let same : y ≡ x = cc in ap test (sym same) ∙ e
      | false ↦ λ e k. find-passes test xs x k
    ] in
    both (test y) refl h

pub mnemonic_at-is : (name : List ℕ) (m : Mnemonic) → mnemonic_at name ≡ Some m → name_of m ≡ name
mnemonic_at-is name m h =
    (bytes_eq-Decides (name_of m) name).0 (find-passes (λ n. bytes_eq (name_of n) name) every_mnemonic m h)

pub mnemonic_at-none : (name : List ℕ) → ((m : Mnemonic) → name_of m ≢ name) → mnemonic_at name ≡ None
mnemonic_at-none name apart =
    let both : (r : Option Mnemonic) → mnemonic_at name ≡ r → r ≡ None =
    λ r. elim r as (λ v. mnemonic_at name ≡ v
    → v ≡ None) [ None ↦ λ e. refl | Some m ↦ λ e. absurd (apart m (mnemonic_at-is name m e)) ] in
    both (mnemonic_at name) refl

pub head_of-insn : (name : List ℕ) (m : Mnemonic) → name_of m ≡ name → head_of name ≡ Some (heads.Insn m)
unfolding head_of
head_of-insn name m e =
    let found : mnemonic_at name ≡ Some m = ap mnemonic_at (sym e) ∙ mnemonic_at-name m in
    ap (λ r. option_or (option_map heads.Insn r) (option_map heads.PseudoOp (pseudo_op_at name))) found

pub head_of-pseudo_op : (name : List ℕ) (o : Option PseudoOp) → ((m : Mnemonic) → name_of m ≢ name)
    → pseudo_op_at name ≡ o
    → head_of name ≡ option_map heads.PseudoOp o
unfolding head_of
head_of-pseudo_op name o apart e =
    ap (λ r. option_or (option_map heads.Insn r) (option_map heads.PseudoOp (pseudo_op_at name)))
    (mnemonic_at-none name apart)
    ∙ ap (option_map heads.PseudoOp) e

each_short : list_all (λ m. nat_le (length (name_of m)) 13) every_mnemonic ≡ true
unfolding every_mnemonic
each_short = refl

pub find-list_all : {A : Type 0} (test each : A → Bool) (xs : List A) (x : A) → list_all each xs ≡ true
    → find test xs ≡ Some x → each x ≡ true
find-list_all test each [] x h e = cc
find-list_all test each (y ∷ xs) x h e =
    let (a, b) = and_parts (each y) (list_all each xs) h in
    let either : (v : Bool) → cond v (Some y) (find test xs) ≡ Some x → each x ≡ true =
    λ v. elim v as (λ w. cond w (Some y) (find test xs) ≡ Some x → each x ≡ true) [
      | true ↦ λ k. let same : y ≡ x = cc in ap each (sym same) ∙ a
      | false ↦ λ k. find-list_all test each xs x b k
    ] in
    either (test y) e

pub name_of-short : (m : Mnemonic) → length (name_of m) ≤ 13
name_of-short m =
    let h : nat_le (length (name_of m)) 13 ≡ true = find-list_all (λ n. bytes_eq (name_of n) (name_of m))
    (λ n. nat_le (length (name_of n)) 13) every_mnemonic m each_short (mnemonic_at-name m) in
    grind (arith, nat_tests, h)

each_word : list_all (λ m. is_word (name_of m)) every_mnemonic ≡ true
unfolding every_mnemonic
each_word = refl

pub name_of-word : (m : Mnemonic) → is_word (name_of m) ≡ true
name_of-word m =
    find-list_all (λ n. bytes_eq (name_of n) (name_of m)) (λ n. is_word (name_of n)) every_mnemonic m each_word
    (mnemonic_at-name m)

pseudo_op_at-name : (pseudo_op : PseudoOp) → head_of (pseudo_op_name pseudo_op) ≡ Some (heads.PseudoOp pseudo_op)
unfolding head_of every_mnemonic every_pseudo_op
pseudo_op_at-name owns.Byte = refl
pseudo_op_at-name pseudo_op = refl

pub head_of-pseudo_op_name : (name : List ℕ) (pseudo_op : PseudoOp) → pseudo_op_name pseudo_op ≡ name
    → head_of name ≡ Some (heads.PseudoOp pseudo_op)
head_of-pseudo_op_name name pseudo_op e = ap head_of (sym e) ∙ pseudo_op_at-name pseudo_op
