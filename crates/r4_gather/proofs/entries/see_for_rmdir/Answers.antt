use Rattle.std.proofs.Common.{◌≡◌, ◌∷◌, false, true, sym, subst, arith}
use Rattle.std.proofs.lemmas.Grind.{common_steps}
use Rattle.r4_content.specs.Entries.{rmdir}
use Rattle.r4_content.specs.Meaning.{is_path}
use Rattle.r4_content.specs.Objects.{is_dir}
use Rattle.r4_content.specs.declared.reply.Reply.TheVariants.{Loop}
use Rattle.r4_dir.specs.Coming.{object_of}
use Rattle.r4_gather.specs.Asking.{EndsIn, HasAsked, StopsIn}
use Rattle.r4_gather.specs.Finding.{place_seen}
use Rattle.std.proofs.lemmas.Result.{on_err_weaker, on_ok_weaker}
use Rattle.r4_gather.proofs.Quiet.{rmdir_asked, rmdir_ends, rmdir_file, rmdir_stops, with_names}
use Rattle.r4_gather.proofs.entries.see_for_rmdir.Goals as goal

pub returns-in_default-clause-asked : goal.returns-in_default-clause-asked
returns-in_default-clause-asked g c =
    let path = c.args.path.now in
    let old = g.S.Sight.state c.args.sight.now in
    let mid = g.S.Sight.state c.see_entry.new.sight in
    let legal : is_path path ≡ true = grind arith in
    subst (λ x. HasAsked x old mid) (sym (with_names path (rmdir path) legal))
    (rmdir_ends path old mid (rw c.in_default.is at c.in_ok-found.ensures.comes Loop))

pub returns-then-not-is_dir-clause-asked : goal.returns-then-not-is_dir-clause-asked
returns-then-not-is_dir-clause-asked g c =
    let path = c.args.path.now in
    let old = g.S.Sight.state c.args.sight.now in
    let mid = g.S.Sight.state c.see_entry.new.sight in
    let f = c.in-Some.found in
    let legal : is_path path ≡ true = grind arith in
    let file : is_dir (object_of f.object) ≡ false = grind (arith, common_steps) in
    subst (λ x. HasAsked x old mid) (sym (with_names path (rmdir path) legal))
    (rmdir_file path old mid (object_of f.dir) (place_seen f)
    (rw c.in-Some.is at c.in_ok-found.ensures.comes Loop) file)

pub returns-clause-asked : goal.returns-clause-asked
returns-clause-asked g c =
    let path = c.args.path.now in
    let old = g.S.Sight.state c.args.sight.now in
    let mid = g.S.Sight.state c.see_entry.new.sight in
    let new = g.S.Sight.state c.see_all.new.self in
    let f = c.in-Some.found in
    let legal : is_path path ≡ true = grind arith in
    let dir : is_dir (object_of f.object) ≡ true = grind (arith, common_steps) in
    on_ok_weaker c.see_all.result (λ all. subst (λ x. HasAsked x old new)
    (sym (with_names path (rmdir path) legal))
    (rmdir_asked path old mid (object_of f.dir) (place_seen f)
    (rw c.in-Some.is at c.in_ok-found.ensures.comes Loop) dir new c.see_all.ensures.later
    (subst (λ r. new.asked ≡ r ∷ mid.asked) c.entries_of.ensures all))) c.see_all.ensures.asked

pub returns-clause-stops : goal.returns-clause-stops
returns-clause-stops g c =
    let path = c.args.path.now in
    let old = g.S.Sight.state c.args.sight.now in
    let mid = g.S.Sight.state c.see_entry.new.sight in
    let new = g.S.Sight.state c.see_all.new.self in
    let f = c.in-Some.found in
    let legal : is_path path ≡ true = grind arith in
    let dir : is_dir (object_of f.object) ≡ true = grind (arith, common_steps) in
    on_err_weaker c.see_all.result (λ stops. subst (λ x. StopsIn x old new)
    (sym (with_names path (rmdir path) legal))
    (rmdir_stops path old mid (object_of f.dir) (place_seen f)
    (rw c.in-Some.is at c.in_ok-found.ensures.comes Loop) dir new c.see_all.ensures.later
    (subst (λ r. EndsIn new.asked (r ∷ mid.asked)) c.entries_of.ensures stops))) c.see_all.ensures.stops
