use Rattle.std.specs.Prelude.{is_some}
use Rattle.alpha_asm.specs.Assembled.{item_at}
use Rattle.alpha_fix.specs.FixedLines.{items_of, names_code}
use Rattle.alpha_fix.proofs.LineRoles.{other_role, insn_role, alone_role}
use Rattle.std.proofs.Common.{◌≡◌, sym, ◌∙◌, ⊎_elim}
use Rattle.alpha_asm.specs.declared.line_kind.LineKind.TheVariants as kinds
use Rattle.alpha_fix.proofs.barriers.role_here.Goals as goal

pub returns-in-Other : goal.returns-in-Other
returns-in-Other c =
    other_role (names_code (items_of c.args.symbols.now)) c.args.base (is_some (item_at c.args.text.now).label)
    (item_at c.args.text.now).statement (sym c.requires.kind ∙ c.in-Other.is)

pub returns-in-InsnAlone : goal.returns-in-InsnAlone
returns-in-InsnAlone c =
    ⊎_elim
    (λ (alone : c.args.kind ≡ kinds.InsnAlone). alone_role (names_code (items_of c.args.symbols.now)) c.args.base
    (is_some (item_at c.args.text.now).label) (item_at c.args.text.now).statement (sym c.requires.kind ∙ alone))
    (λ (other : c.args.kind ≡ kinds.Insn). insn_role (names_code (items_of c.args.symbols.now)) c.args.base
    (is_some (item_at c.args.text.now).label) (item_at c.args.text.now).statement (sym c.requires.kind ∙ other))
    c.in-InsnAlone.is
