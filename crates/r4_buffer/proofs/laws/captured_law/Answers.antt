use Rattle.r4_buffer.proofs.Captured.{captured_is, is_captured_from}
use Rattle.r4_buffer.proofs.laws.captured_law.Goals as goal

pub returns : goal.returns
returns c b i lawful = (captured_is b lawful i, is_captured_from b lawful i)
