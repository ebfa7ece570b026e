use Rattle.std.proofs.Common.{◌≡◌, ◌-◌, ◌∙◌, ℕ, take, drop, ap, arith}
use Rattle.std.proofs.lemmas.List.{length-drop, take_all}
use Rattle.r4_base.specs.Dir.{entries_of}
use Rattle.r4_base.proofs.Dirs.{length-entries_of}
use Rattle.r4_cde.proofs.Cuts.{body_laid}
use Rattle.r4_cde.proofs.Parts.{Part, front_lawful, part, part_entries, part_lawful}
use Rattle.r4_cde.proofs.part.split.Goals as goal

pub get16-count-requires : goal.get16-count-requires
get16-count-requires c =
    let laid = body_laid c.args.body.now c.requires.lawful in
    laid.two

pub copy_part-requires-clause-laid : goal.copy_part-requires-clause-laid
copy_part-requires-clause-laid c =
    body_laid c.args.body.now c.requires.lawful

pub copy_part-requires-2-clause-laid : goal.copy_part-requires-2-clause-laid
copy_part-requires-2-clause-laid c =
    body_laid c.args.body.now c.requires.lawful

pub returns-clause-left_entries : goal.returns-clause-left_entries
returns-clause-left_entries c item =
    let b = c.args.body.now in
    let p : Part b 0 c.args.at (take c.copy_part.result c.copy_part.new.into) = part b 0 c.args.at c.copy_part.result c.copy_part.new.into c.requires.short (body_laid b c.requires.lawful) (omega arith) (omega arith) c.copy_part.ensures.part in
    let all : c.args.at - 0 ≡ c.args.at = omega arith in
    part_entries item b 0 c.args.at (take c.copy_part.result c.copy_part.new.into) (omega arith) (omega arith) p ∙ ap (λ (m : ℕ). take m (entries_of item b)) all

pub returns-clause-right_entries : goal.returns-clause-right_entries
returns-clause-right_entries c item =
    let b = c.args.body.now in
    let q : Part b c.args.at c.get16-count.result (take c.copy_part-2.result c.copy_part-2.new.into) = part b c.args.at c.get16-count.result c.copy_part-2.result c.copy_part-2.new.into c.requires.short (body_laid b c.requires.lawful) (omega arith) (omega arith) c.copy_part-2.ensures.part in
    let n = length-entries_of item b in
    let m = length-drop c.args.at (entries_of item b) in
    part_entries item b c.args.at c.get16-count.result (take c.copy_part-2.result c.copy_part-2.new.into) (omega arith) (omega arith) q ∙ take_all (c.get16-count.result - c.args.at) (drop c.args.at (entries_of item b)) (omega arith)

pub returns-clause-left_lawful : goal.returns-clause-left_lawful
returns-clause-left_lawful c item ok =
    let b = c.args.body.now in
    let p : Part b 0 c.args.at (take c.copy_part.result c.copy_part.new.into) = part b 0 c.args.at c.copy_part.result c.copy_part.new.into c.requires.short (body_laid b c.requires.lawful) (omega arith) (omega arith) c.copy_part.ensures.part in
    front_lawful item b c.args.at (take c.copy_part.result c.copy_part.new.into) ok (omega arith) (omega arith) p

pub returns-clause-right_lawful : goal.returns-clause-right_lawful
returns-clause-right_lawful c item ok =
    let b = c.args.body.now in
    let q : Part b c.args.at c.get16-count.result (take c.copy_part-2.result c.copy_part-2.new.into) = part b c.args.at c.get16-count.result c.copy_part-2.result c.copy_part-2.new.into c.requires.short (body_laid b c.requires.lawful) (omega arith) (omega arith) c.copy_part-2.ensures.part in
    part_lawful item b c.args.at c.get16-count.result (take c.copy_part-2.result c.copy_part-2.new.into) ok (omega arith) (omega arith) q
