use Rattle.lab_script.proofs.ops.form_of.Goals as goal

pub returns-in-Client : goal.returns-in-Client
returns-in-Client c = rw c.in-Client.is c.row_of-in-Client.ensures

pub returns-in-Reader : goal.returns-in-Reader
returns-in-Reader c = rw c.in-Reader.is c.row_of-in-Reader.ensures
