use Rattle.dv_app.proofs.loadings.load_arrived.Goals as goal

pub returns-in-Brought : goal.returns-in-Brought
returns-in-Brought g c = rw c.in-Brought.is c.load_window.ensures
