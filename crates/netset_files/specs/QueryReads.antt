-- The two lists of a query, read one after the other.
use Rattle.std.specs.Prelude.{None}
use Rattle.netset_files.specs.ListReads.{Left}
use Rattle.netset_lib.specs.Answering.{IsAnswererFor, AreAnsweredBy}
use Rattle.netset_lib.specs.SetReaders.{ReadsNext}
use Rattle.netset_lib.specs.declared.answer.Answer.{Answer}
use Rattle.netset_lib.specs.declared.answerer.Answerer.{Answerer}
use Rattle.netset_lib.specs.declared.query.Query.{Query}
use Rattle.netset_lib.specs.declared.set_reader.SetReader.{SetReader}

-- One list of unknown bytes was read, and then a list of all bytes that its input had left. This is the answer of the
-- query of the first list to the entries of the second.
pub record AnswersQuery (query : Query) (left : Left) (old new : SetReader) (answer : Answer) : Type 0 where
  pub answerer : Answerer
  pub mid : SetReader
  pub left_after : Left
  pub first : ReadsNext (IsAnswererFor query answerer) None None old mid
  pub second : ReadsNext (AreAnsweredBy answerer answer) left left_after mid new
