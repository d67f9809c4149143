use Rattle.condition_parser.proofs.readers.+read.Given as goal

abbrev pub decreases-read : goal.decreases-read
decreases-read l = l.depth
