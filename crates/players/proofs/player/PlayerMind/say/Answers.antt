use Rattle.players.proofs.player.PlayerMind.say.Goals as goal

pub returns-in-Scripted-clause-kept : goal.returns-in-Scripted-clause-kept
returns-in-Scripted-clause-kept g c = rw c.in-Scripted.is c.say-in-Scripted.ensures.kept
