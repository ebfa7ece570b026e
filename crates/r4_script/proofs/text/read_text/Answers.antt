use Rattle.std.proofs.Common.{arith, refl}
use Rattle.r4_script.proofs.Lines.{text_cut, text_whole, same_answer}
use Rattle.r4_script.proofs.text.read_text.Goals as goal

pub returns-then-text-limit : goal.returns-then-text-limit
returns-then-text-limit c = same_answer _ _ _ _ refl (text_cut c.args.limit c.args.text.now (omega arith)) c.read_lines.ensures

pub returns : goal.returns
returns c = same_answer _ _ _ _ refl (text_whole c.args.limit c.args.text.now (omega arith)) c.read_lines-2.ensures
