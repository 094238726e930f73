use Rattle.std.proofs.Common.{◌∙◌, ap}
use Rattle.pop_session.specs.Requests.{outcome_of}
use Rattle.pop_session.specs.Replies.{pop_reply_bytes}
use Rattle.pop_session.specs.Sessions.{open_reply}
use Rattle.tap_edges.proofs.Puts.{Put-as}
use Rattle.pop_session.proofs.session.PopSession.answer.Goals as goal

pub returns-in-Ok-clause-put : goal.returns-in-Ok-clause-put
returns-in-Ok-clause-put g c =
    Put-as g.K.Sink _ _ _ _ _ _
    (ap (λ o. pop_reply_bytes c.self.inside.letters.now o.reply) (c.outcome_of-outcome.ensures
    ∙ ap (outcome_of c.self.inside.user.now c.self.inside.secret.now c.self.inside.phase) c.as_slice.ensures.value)
    ∙ ap open_reply c.self.view_is)
    c.in-Ok.ensures

pub returns-in-Err-clause-put : goal.returns-in-Err-clause-put
returns-in-Err-clause-put g c =
    Put-as g.K.Sink _ _ _ _ _ _
    (ap (λ o. pop_reply_bytes c.self.inside.letters.now o.reply) (c.outcome_of-outcome.ensures
    ∙ ap (outcome_of c.self.inside.user.now c.self.inside.secret.now c.self.inside.phase) c.as_slice.ensures.value)
    ∙ ap open_reply c.self.view_is)
    c.in-Err.ensures
