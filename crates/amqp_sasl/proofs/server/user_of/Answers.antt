use Rattle.std.proofs.Common.{◌∙◌}
use Rattle.amqp_sasl.proofs.LoginLemmas.{by_anonymous, not_by_plain, nobody, nobody_in_plain, chosen_at, none_at, answered_by_plain}
use Rattle.amqp_sasl.proofs.server.user_of.Goals as goal

pub returns-in_ok-from_str-in-Some-Anonymous : goal.returns-in_ok-from_str-in-Some-Anonymous
returns-in_ok-from_str-in-Some-Anonymous c =
    let chosen = chosen_at _ _ _ _ _ _ c.chosen.ensures c.as_str.ensures c.in-Some-Anonymous.is c.in-Some-Anonymous.field-0-is in
    by_anonymous _ _ c.args.init.now chosen _ (c.new.ensures ∙ c.in_ok-from_str-in-Some-Anonymous.ensures.ok)

pub returns-in-Some : goal.returns-in-Some
returns-in-Some c =
    let chosen = chosen_at _ _ _ _ _ _ c.chosen.ensures c.as_str.ensures c.in-Some-Plain.is c.in-Some-Plain.field-0-is in
    answered_by_plain _ _ c.args.init.now chosen _ _ c.in-Some.is c.as_slice.ensures _ c.plain_user.ensures

pub returns-in-None-initial_response : goal.returns-in-None-initial_response
returns-in-None-initial_response c =
    let chosen = chosen_at _ _ _ _ _ _ c.chosen.ensures c.as_str.ensures c.in-Some-Plain.is c.in-Some-Plain.field-0-is in
    not_by_plain _ _ c.args.init.now chosen (nobody_in_plain _ _ c.in-None-initial_response.is)

pub returns-in-None : goal.returns-in-None
returns-in-None c = nobody _ _ c.args.init.now (none_at _ _ _ _ c.chosen.ensures c.as_str.ensures c.in-None.is)
