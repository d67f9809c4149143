-- The order law by ranks.
use Rattle.alone.proofs.Ranks.{order_has_each_once, order_is_serial, order_is_kept, order_step, earlier_numbers, least_out_stays}
use Rattle.alone.proofs.Placed.{readers_placed}
use Rattle.alone.proofs.commit_laws.commits_have_an_order.Goals as goal

pub returns-clause-once : goal.returns-clause-once
returns-clause-once c = λ log h. order_has_each_once log

pub returns-clause-serial : goal.returns-clause-serial
returns-clause-serial c = order_is_serial

pub returns-clause-readers : goal.returns-clause-readers
returns-clause-readers c = readers_placed

pub returns-clause-kept : goal.returns-clause-kept
returns-clause-kept c = order_is_kept

pub returns-clause-put_in : goal.returns-clause-put_in
returns-clause-put_in c = order_step

pub returns-clause-fixed : goal.returns-clause-fixed
returns-clause-fixed c = λ commit earlier h other m. least_out_stays commit earlier other (earlier_numbers commit earlier h.0 h.1 other m)
