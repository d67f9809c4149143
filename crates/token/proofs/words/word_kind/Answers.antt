use Rattle.std.proofs.Common.{sym, ◌∙◌}
use Rattle.token.proofs.Lengths.{kind_of_length}
use Rattle.token.proofs.words.word_kind.Goals as goal

pub returns-in-2 : goal.returns-in-2
returns-in-2 c = c.find_word.ensures ∙ sym (kind_of_length c.args.word.now 2 c.in-2.is)

pub returns-in-3 : goal.returns-in-3
returns-in-3 c = c.find_word-in-3.ensures ∙ sym (kind_of_length c.args.word.now 3 c.in-3.is)

pub returns-in-4 : goal.returns-in-4
returns-in-4 c = c.find_word-in-4.ensures ∙ sym (kind_of_length c.args.word.now 4 c.in-4.is)

pub returns-in-5 : goal.returns-in-5
returns-in-5 c = c.find_word-in-5.ensures ∙ sym (kind_of_length c.args.word.now 5 c.in-5.is)

pub returns-in-6 : goal.returns-in-6
returns-in-6 c = c.find_word-in-6.ensures ∙ sym (kind_of_length c.args.word.now 6 c.in-6.is)

pub returns-in-7 : goal.returns-in-7
returns-in-7 c = c.find_word-in-7.ensures ∙ sym (kind_of_length c.args.word.now 7 c.in-7.is)

pub returns-in-8 : goal.returns-in-8
returns-in-8 c = c.find_word-in-8.ensures ∙ sym (kind_of_length c.args.word.now 8 c.in-8.is)

pub returns-in-9 : goal.returns-in-9
returns-in-9 c = c.find_word-in-9.ensures ∙ sym (kind_of_length c.args.word.now 9 c.in-9.is)

pub returns-in-10 : goal.returns-in-10
returns-in-10 c = c.find_word-in-10.ensures ∙ sym (kind_of_length c.args.word.now 10 c.in-10.is)

pub returns-in-11 : goal.returns-in-11
returns-in-11 c = c.find_word-in-11.ensures ∙ sym (kind_of_length c.args.word.now 11 c.in-11.is)
