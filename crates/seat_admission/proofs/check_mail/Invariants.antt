use Rattle.plan.specs.declared.Refusal.TheVariants as refusal
use Rattle.seat_admission.proofs.check_mail.Given as goal

abbrev pub ghost-check_list : goal.ghost-check_list
ghost-check_list a = refusal.MailValue
