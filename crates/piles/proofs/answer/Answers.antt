use Rattle.piles.proofs.Refusing.{refused}
use Rattle.piles.proofs.answer.Goals as goal

pub returns-in-Err : goal.returns-in-Err
returns-in-Err c =
    let k = c.in-Err.ensures in
    refused c.args.trace.now c.args.text.now c.replay_pile.new.report c.write_refusal.new.report c.in-Err.fault k.pile c.write_refusal.result k.replayed c.write_refusal.ensures
