use Rattle.live_states.proofs.LettingGo.{plain, volume_without}
use Rattle.live_states.proofs.data_may_be_let_go.Goals as goal

pub returns : goal.returns
returns c = λ kept holdings q disk keeps volume f k a claim inside is_file.
    (plain kept holdings q disk keeps volume f k a claim inside is_file, volume_without kept holdings q disk keeps volume f k a claim inside is_file)
