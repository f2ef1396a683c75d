use Rattle.std.proofs.lemmas.Result.{err_from_is_err_and}
use Rattle.stage.proofs.Starts.{sides_refused}
use Rattle.stage.proofs.state.start.ask_start.Goals as goal

pub returns-in_err-tile : goal.returns-in_err-tile
returns-in_err-tile c =
    let p = err_from_is_err_and c.from_residual.result c.from_residual.ensures.1 in
    rw (p.1, p.2) (record { asked = sides_refused c.args.columns c.args.rows c.args.last c.args.memory _ c.in_err-tile.ensures.asked; made = tt })
