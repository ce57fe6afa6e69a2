use Rattle.reader.proofs.OneAnswer.{one_answer}
use Rattle.reader.proofs.laws.answer_is_unique.Goals as goal

pub returns : goal.returns
returns c = one_answer
