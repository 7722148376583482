-- The canonical line of an instruction reads back.
use Rattle.std.proofs.Common.{◌≡◌, None, Result, Ok, Err, refl, sym, ◌∙◌, ap}
use Rattle.alpha_table.specs.Names.{mnemonic_of}
use Rattle.alpha_table.specs.Row.{IsInsn}
use Rattle.alpha_table.specs.declared.form.Form.{Form}
use Rattle.alpha_text.specs.declared.head.Head.TheVariants as heads
use Rattle.alpha_text.specs.declared.reader.LineFault.{LineFault}
use Rattle.alpha_text.specs.Statements.{Stmt, empty, code}
use Rattle.alpha_text.specs.Canon.{canon, words_of, behind_name}
use Rattle.alpha_text.specs.Reading.{LineStmt, read}
use Rattle.alpha_text.proofs.SuffixReading.{line_says, is_apart, says_insn}

pub reads_back : (i : Form) → IsInsn i → read (canon i) ≡ Ok (record { label = None; statement = code i })
unfolding canon read
reads_back i good =
    rw (line_says (heads.Insn (mnemonic_of i)) (behind_name (words_of i))
    (code i) (is_apart (words_of i)) (says_insn i good))
    refl

abbrev stmt_in : Result LineStmt LineFault → Stmt
stmt_in (Ok line) = line.statement
stmt_in (Err f) = empty

-- what is read of two lines that are the same is the same
pub canon-injective : (i j : Form) → IsInsn i → IsInsn j → canon i ≡ canon j → i ≡ j
canon-injective i j a b e =
    let same : code i ≡ code j =
    sym (ap stmt_in (reads_back i a)) ∙ ap (λ line. stmt_in (read line)) e ∙ ap stmt_in (reads_back j b) in
    cc same
