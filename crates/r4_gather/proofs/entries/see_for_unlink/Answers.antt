use Rattle.std.proofs.Common.{◌≡◌, true, sym, subst, arith}
use Rattle.r4_content.specs.Entries.{unlink, unname_in}
use Rattle.r4_content.specs.Course.{Answer, Change}
use Rattle.r4_content.specs.Meaning.{is_path}
use Rattle.r4_content.specs.Objects.{is_dir}
use Rattle.r4_content.specs.declared.reply.Reply.TheVariants.{Isdir}
use Rattle.std.specs.Prelude.{if◌then◌else◌}
use Rattle.r4_gather.specs.Asking.{HasAsked}
use Rattle.r4_gather.proofs.Quiet.{choice_quiet, entry_quiet, with_names}
use Rattle.r4_gather.proofs.entries.see_for_unlink.Goals as goal

pub returns-clause-asked : goal.returns-clause-asked
returns-clause-asked g c =
    let path = c.args.path.now in
    let old = g.S.Sight.state c.args.sight.now in
    let new = g.S.Sight.state c.see_entry.new.sight in
    let legal : is_path path ≡ true = grind arith in
    subst (λ x. HasAsked x old new) (sym (with_names path (unlink path) legal))
    (entry_quiet Isdir path old new c.in_ok-see_entry.field-0 (c.in_ok-see_entry.ensures.comes Isdir)
    (λ dir n p. if is_dir p.here then Answer Isdir else Change (unname_in dir n p.here))
    (λ dir n p s xs. choice_quiet (is_dir p.here) Isdir (unname_in dir n p.here) s xs))
